-- What rows of every kind have.
use Rattle.std.specs.Prelude.{ℕ}
use Rattle.kg_row_types.specs.declared.entity.Entity.{Entity}
use Rattle.kg_row_types.specs.declared.entity.Entity.TheVariants.{Service, Route, Consumer, KeyCred, BasicCred, Acl, Plugin}
use Rattle.kg_row_types.specs.declared.entity.Kind.{Kind}
use Rattle.kg_row_types.specs.declared.entity.Kind.TheVariants as kind

abbrev pub kind_of : Entity → Kind
kind_of (Service row) = kind.Service
kind_of (Route row) = kind.Route
kind_of (Consumer row) = kind.Consumer
kind_of (KeyCred row) = kind.KeyCred
kind_of (BasicCred row) = kind.BasicCred
kind_of (Acl row) = kind.Acl
kind_of (Plugin row) = kind.Plugin

abbrev pub id_of_row : Entity → ℕ
id_of_row (Service row) = row.id
id_of_row (Route row) = row.id
id_of_row (Consumer row) = row.id
id_of_row (KeyCred row) = row.id
id_of_row (BasicCred row) = row.id
id_of_row (Acl row) = row.id
id_of_row (Plugin row) = row.id
