-- What holds of the answers of a connection's calls, one after another (this project's own).
use Rattle.std.specs.Prelude.{ℕ, ◌+◌, ◌≤◌, List, [], ◌∷◌, IfSome, unwrap_or, if◌then◌else◌, ⊤}
use Rattle.kg_admin.specs.declared.done.AdminDone.{AdminDone}

-- the places of the history where they were made never fall, from this one on
abbrev pub NeverFall : ℕ → List AdminDone → Type 0
NeverFall least [] = ⊤
NeverFall least (done ∷ dones) = IfSome done.at (λ at. least ≤ at) × NeverFall (unwrap_or done.at least) dones

-- for how many of them the store failed
abbrev pub faulted_in : List AdminDone → ℕ
faulted_in [] = 0
faulted_in (done ∷ dones) = (if done.faulted then 1 else 0) + faulted_in dones
