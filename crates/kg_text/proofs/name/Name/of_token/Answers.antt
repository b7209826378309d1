use Rattle.kg_text.proofs.NameLemmas.{IsName-lower}
use Rattle.kg_text.proofs.name.Name.of_token.Goals as goal

-- a token in lower case stays a token
pub invariant_of-result : goal.invariant_of-result
invariant_of-result c = rw c.in_ok-to_ascii_lowercase.ensures.ok (IsName-lower c.args.raw.now c.requires)
