-- Which requests fit a route, but for its service (Kong Gateway manual, "How Kong matches requests").
use Rattle.std.specs.Prelude.{ℕ, Bool, ◌&&◌, List, Option, Some, None, if◌then◌else◌}
use Rattle.std.specs.List.{list_any, list_all}
use Rattle.std.specs.Str.{bytes_eq, str_eq_ignore_ascii_case}
use Rattle.kg_text.specs.Hosts.{host_of}
use Rattle.kg_row_types.specs.declared.route.HeaderTest.{HeaderTest}
use Rattle.kg_row_types.specs.declared.route.Route.{Route}
use Rattle.kg_message.specs.declared.header.Header.{Header}
use Rattle.kg_message.specs.declared.request.Request.{Request}
use Rattle.kg_match.specs.Attributes.{fits_where}
use Rattle.kg_match.specs.RoutePaths.{path_fits, path_cut}
use Rattle.kg_match.specs.Wildcards.{host_fits}

-- the field has the name and one of the values, compared without ASCII case
abbrev pub field_fits : HeaderTest → Header → Bool
field_fits test field =
    bytes_eq field.name test.name && list_any (λ value. str_eq_ignore_ascii_case value field.value) test.values

-- a field of the name has one of the values
abbrev pub header_fits : List Header → HeaderTest → Bool
header_fits fields test = list_any (field_fits test) fields

-- all but the path fits
abbrev pub fits_but_path : Route → Request → Bool
fits_but_path route request =
    fits_where (λ method. bytes_eq method request.method) route.methods
    && fits_where (λ wanted. host_fits wanted (host_of request.host)) route.hosts
    && list_all (header_fits request.headers) route.headers

-- each attribute that is set has a value that fits, and of the headers each
abbrev pub fits : Route → Request → Bool
fits route request = fits_but_path route request && fits_where (path_fits request.path) route.paths

-- how many bytes of the request's path the route takes
abbrev pub cut_of : Route → Request → ℕ
cut_of route request = path_cut route.paths request.path

-- those bytes, where the route fits
abbrev pub match_of : Route → Request → Option ℕ
match_of route request = if fits route request then Some (cut_of route request) else None
