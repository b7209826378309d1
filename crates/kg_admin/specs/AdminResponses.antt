-- The replies of the Admin API that show rows (Kong Admin API; the offset that is an id is this project's own).
use Rattle.std.specs.Prelude.{ℕ, ◌-◌, List, [], ◌∷◌, ◌++◌, length, map, slice_get, Option, Some, None, codes, decimal, if◌then◌else◌, Bool}
use Rattle.serde_json.specs.Data.{Data, array, null, string}
use Rattle.serde_json.specs.View.{items_of}
use Rattle.serde_json.specs.Written.{compact_text}
use Rattle.kg_message.specs.HeaderLists.{content_type}
use Rattle.kg_message.specs.declared.response.Response.{Response}
use Rattle.kg_row_queries.specs.declared.pages.Page.{Page}
use Rattle.kg_row_types.specs.Entities.{id_of_row}
use Rattle.kg_row_types.specs.Ids.{printed}
use Rattle.kg_row_types.specs.declared.entity.Entity.{Entity}
use Rattle.kg_shown_rows.specs.Shown.{shown}
use Rattle.kg_shown_rows.specs.ShownParts.{object_of}

-- a reply of the Admin API, with this body
abbrev pub admin_response : ℕ → List ℕ → Response
admin_response status body = record {
  status = status;
  headers = content_type (codes "application/json; charset=utf-8") ∷ [];
  body = body;
}

-- a row
abbrev pub row_response : ℕ → Entity → Response
row_response status row = admin_response status (compact_text (shown row))

-- nothing to show
abbrev pub empty_response : Response
empty_response = admin_response 204 []

-- ---- pages

-- the row that is shown last, if one is
abbrev pub last_row : List Entity → Option Entity
last_row rows = slice_get rows (length rows - 1)

-- the path of the next page, which begins above the last row
abbrev pub next_path : List ℕ → ℕ → Entity → List ℕ
next_path path size last = path ++ codes "?offset=" ++ printed (id_of_row last) ++ codes "&size=" ++ decimal size

-- the next page, above the row that is shown last
abbrev pub next_after : List ℕ → ℕ → Option Entity → Data
next_after path size None = null
next_after path size (Some last) = string (next_path path size last)

-- where more rows follow, the next page
abbrev pub next_page : List ℕ → ℕ → Bool → List Entity → Data
next_page path size more rows = if more then next_after path size (last_row rows) else null

abbrev pub page_object : List Entity → Data → Data
page_object rows next = object_of ((codes "data", array (items_of (map shown rows))) ∷ (codes "next", next) ∷ [])

-- a page of rows of the list at this path
abbrev pub page_response : List ℕ → ℕ → Page → Response
page_response path size page = admin_response 200 (compact_text (page_object page.rows (next_page path size page.more page.rows)))
