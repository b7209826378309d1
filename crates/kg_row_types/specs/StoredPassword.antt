-- What is kept of a consumer's password (Kong's plugin basic-auth, with the consumer's id as salt;
-- SHA-256 in place of SHA-1 is this project's own).
use Rattle.std.specs.Prelude.{ℕ, List, ◌++◌, codes}
use Rattle.hex.specs.Hex.{encode_lower}
use Rattle.sha2.specs.Sha256.{sha256}
use Rattle.kg_row_types.specs.Ids.{printed}

-- the SHA-256 of the printed id of the consumer, a colon and the password, as hexadecimal digits in
-- lower case
unfoldable pub stored_password : ℕ → List ℕ → List ℕ
stored_password consumer password = encode_lower (sha256 (printed consumer ++ codes ":" ++ password))
