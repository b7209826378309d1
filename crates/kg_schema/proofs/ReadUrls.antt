-- What a url tells: a host, a port and a path that a service can have.
use Rattle.std.proofs.Common.{◌≡◌, ℕ, ◌+◌, ◌*◌, ◌≤◌, ◌==◌, nat_le, nat_lt, if◌then◌else◌, Bool, true, false, List, [], ◌∷◌, length, drop, Option, Some, None, option_map, option_and_then, codes, refl, arith}
use Rattle.std.proofs.lemmas.Bool.{and_parts, leb-true}
use Rattle.std.proofs.lemmas.Bool.Decides.{nat_tests}
use Rattle.std.specs.Char.{digit_value, is_ascii_digit}
use Rattle.std.specs.List.{before_first, list_all}
use Rattle.std.specs.Prelude.{IfSome, IsTrue}
use Rattle.std.specs.Str.Parse.{digits_value, digits_value_after}
use Rattle.kg_text.specs.Paths.{slash}
use Rattle.kg_row_types.specs.ConfigTexts.{colon}
use Rattle.kg_text.specs.Hosts.{is_host}
use Rattle.kg_row_types.specs.TextForms.{is_normal_path}
use Rattle.serde_json.specs.Data.{Data}
use Rattle.serde_json.specs.Find.{as_str, get}
use Rattle.kg_bodies.specs.Settings.{url_at}
use Rattle.kg_field_rules.specs.Urls.{after_scheme, from_first, host_of, is_numeral, only_if, port_number, port_of, url_of, url_path_of}
use Rattle.kg_field_rules.specs.declared.url.Url.{Url}

-- an address that a service can have
pub record IsAddress (url : Url) : Type 0 where
  pub host : IsTrue (is_host url.host)
  pub port : (1 ≤ url.port) × (url.port ≤ 65535)
  pub path : IfSome url.path (λ path. IsTrue (is_normal_path path))

abbrev address : List ℕ → ℕ → Option (List ℕ) → Url
address host port path = record { host = host; port = port; path = path }

-- what is read of something that is read
pub and_then_ok : {A B : Type 0} (P : A → Type 0) (Q : B → Type 0) (next : A → Option B) (o : Option A) → IfSome o P → ((x : A) → P x → IfSome (next x) Q) → IfSome (option_and_then next o) Q
and_then_ok P Q next None ok each = tt
and_then_ok P Q next (Some x) ok each = each x ok

only_if_ok : {A : Type 0} (test : A → Bool) (x : A) → IfSome (only_if test x) (λ y. IsTrue (test y))
only_if_ok {A = A} test x = at_test (test x) refl
  where
    at_test : (b : Bool) → test x ≡ b → IfSome (if b then Some x else None) (λ y. IsTrue (test y))
    at_test true passes = passes
    at_test false fails = tt

-- ---- hosts

host_of_ok : (text : List ℕ) → IfSome (host_of text) (λ host. IsTrue (is_host host))
unfolding host_of
host_of_ok text = only_if_ok is_host text

-- ---- ports

-- further digits make no number smaller
more_digits : (n : ℕ) (digits : List ℕ) → n ≤ digits_value_after 10 n digits
more_digits n [] = omega arith
more_digits n (c ∷ digits) = let more = more_digits (n * 10 + digit_value c) digits in omega arith

first_digit : (c : ℕ) → is_ascii_digit c ≡ true → nat_lt 48 c ≡ true → 1 ≤ digit_value c
first_digit c digit some = grind (arith, nat_tests)

-- a number that begins with another digit than 0 is at least 1
numeral_ok : (digits : List ℕ) → is_numeral digits ≡ true → 1 ≤ digits_value 10 digits
numeral_ok [] is = cc
numeral_ok (c ∷ digits) is =
    let parts = and_parts (list_all is_ascii_digit (c ∷ digits)) (nat_lt 48 c) is in
    let digit = and_parts (is_ascii_digit c) (list_all is_ascii_digit digits) parts.0 in
    let first : 1 ≤ digit_value c = first_digit c digit.0 parts.1 in
    let more = more_digits (0 * 10 + digit_value c) digits in
    omega arith

port_number_ok : (digits : List ℕ) → IfSome (port_number digits) (λ port. (1 ≤ port) × (port ≤ 65535))
port_number_ok digits = at_numeral (is_numeral digits) refl
  where
    at_bound : (n : ℕ) (b : Bool) → nat_le n 65535 ≡ b → 1 ≤ n → IfSome (if b then Some n else None) (λ port. (1 ≤ port) × (port ≤ 65535))
    at_bound n true small some = (some, leb-true n 65535 small)
    at_bound n false large some = tt

    at_numeral : (b : Bool) → is_numeral digits ≡ b → IfSome (if b then only_if (λ n. nat_le n 65535) (digits_value 10 digits) else None) (λ port. (1 ≤ port) × (port ≤ 65535))
    at_numeral true is = at_bound (digits_value 10 digits) (nat_le (digits_value 10 digits) 65535) refl (numeral_ok digits is)
    at_numeral false is = tt

port_of_ok : (text : List ℕ) → IfSome (port_of text) (λ port. (1 ≤ port) × (port ≤ 65535))
unfolding port_of
port_of_ok text = at_end (length text == 0)
  where
    at_end : (b : Bool) → IfSome (if b then Some 80 else port_number (drop 1 text)) (λ port. (1 ≤ port) × (port ≤ 65535))
    at_end true = (omega arith, omega arith)
    at_end false = port_number_ok (drop 1 text)

-- ---- paths

url_path_of_ok : (text : List ℕ) → IfSome (url_path_of text) (λ found. IfSome found (λ path. IsTrue (is_normal_path path)))
unfolding url_path_of
url_path_of_ok text = at_end (length text == 0)
  where
    of_path : (o : Option (List ℕ)) → IfSome o (λ path. IsTrue (is_normal_path path)) → IfSome (option_map Some o) (λ found. IfSome found (λ path. IsTrue (is_normal_path path)))
    of_path None ok = tt
    of_path (Some path) ok = ok

    at_end : (b : Bool) → IfSome (if b then Some None else option_map Some (only_if is_normal_path text)) (λ found. IfSome found (λ path. IsTrue (is_normal_path path)))
    at_end true = tt
    at_end false = of_path (only_if is_normal_path text) (only_if_ok is_normal_path text)

-- ---- urls

pub url_of_ok : (url : List ℕ) → IfSome (url_of url) IsAddress
unfolding url_of
url_of_ok url = at_scheme (after_scheme url)
  where
    at_path : (rest host : List ℕ) (port : ℕ) → IsTrue (is_host host) → (1 ≤ port) × (port ≤ 65535)
        → IfSome (option_and_then (λ path. Some (address host port path)) (url_path_of (from_first (λ b. b == slash) rest))) IsAddress
    at_path rest host port host_ok port_ok =
        and_then_ok (λ found. IfSome found (λ path. IsTrue (is_normal_path path))) IsAddress (λ path. Some (address host port path)) (url_path_of (from_first (λ b. b == slash) rest)) (url_path_of_ok (from_first (λ b. b == slash) rest))
        (λ path path_ok. record { host = host_ok; port = port_ok; path = path_ok })

    at_port : (rest authority host : List ℕ) → IsTrue (is_host host)
        → IfSome (option_and_then (λ port. option_and_then (λ path. Some (address host port path)) (url_path_of (from_first (λ b. b == slash) rest))) (port_of (from_first (λ b. b == colon) authority))) IsAddress
    at_port rest authority host host_ok =
        and_then_ok (λ port. (1 ≤ port) × (port ≤ 65535)) IsAddress (λ port. option_and_then (λ path. Some (address host port path)) (url_path_of (from_first (λ b. b == slash) rest))) (port_of (from_first (λ b. b == colon) authority)) (port_of_ok (from_first (λ b. b == colon) authority))
        (λ port port_ok. at_path rest host port host_ok port_ok)

    at_host : (rest authority : List ℕ)
        → IfSome (option_and_then (λ host. option_and_then (λ port. option_and_then (λ path. Some (address host port path)) (url_path_of (from_first (λ b. b == slash) rest))) (port_of (from_first (λ b. b == colon) authority))) (host_of (before_first (λ b. b == colon) authority))) IsAddress
    at_host rest authority =
        and_then_ok (λ host. IsTrue (is_host host)) IsAddress (λ host. option_and_then (λ port. option_and_then (λ path. Some (address host port path)) (url_path_of (from_first (λ b. b == slash) rest))) (port_of (from_first (λ b. b == colon) authority))) (host_of (before_first (λ b. b == colon) authority)) (host_of_ok (before_first (λ b. b == colon) authority))
        (λ host host_ok. at_port rest authority host host_ok)

    at_scheme : (o : Option (List ℕ))
        → IfSome (option_and_then (λ rest. option_and_then (λ host. option_and_then (λ port. option_and_then (λ path. Some (address host port path)) (url_path_of (from_first (λ b. b == slash) rest))) (port_of (from_first (λ b. b == colon) (before_first (λ b. b == slash) rest)))) (host_of (before_first (λ b. b == colon) (before_first (λ b. b == slash) rest)))) o) IsAddress
    at_scheme None = tt
    at_scheme (Some rest) = at_host rest (before_first (λ b. b == slash) rest)

-- the address that a body's url sets
pub url_ok : (body : Data) → IfSome (url_at body) IsAddress
url_ok body = at_text (option_and_then as_str (get (codes "url") body))
  where
    at_text : (o : Option (List ℕ)) → IfSome (option_and_then url_of o) IsAddress
    at_text None = tt
    at_text (Some text) = url_of_ok text
