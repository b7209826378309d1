-- Which view of which table a writer, a pass and a note hold (this project's own).
use Rattle.std.specs.Prelude.{◌≡◌, ℕ, true, [], length}
use Rattle.atomic_table.specs.Seated.{TableId}
use Rattle.atomic_table.specs.declared.shared.Seat.{Seat}
use Rattle.kg_history.specs.Sights.{Sight}
use Rattle.kg_history.specs.Views.{first_view}
use Rattle.kg_history.specs.declared.view.View.{View}

module _ {E : Type 0} where
  abbrev pub sight_of : View E → Sight E
  sight_of view = record { seen = view.seen; looks = view.looks; last = view.last }

  -- a view of this history, which holds no slot
  pub record IsSeat (history : TableId) (seat : Seat E (View E)) : Type 0 where
    pub named : seat.table_id ≡ history
    pub slots : seat.me.1 ≡ []

  -- and its table is at hand
  pub record IsPass (history table : TableId) (seat : Seat E (View E)) : Type 0 where
    pub view : IsSeat history seat
    pub at_hand : table ≡ history
    pub words : history.words ≡ 1

  -- it is the writer's, whose number of entries is kept
  pub record IsWriter (history table : TableId) (seat : Seat E (View E)) (len : ℕ) : Type 0 where
    pub pass : IsPass history table seat
    pub writes : seat.me.0.writes ≡ true
    pub entries : len ≡ length seat.me.0.seen

  -- nothing was added yet
  pub record IsBlank (table : TableId) (seat : Seat E (View E)) : Type 0 where
    pub named : seat.table_id ≡ table
    pub words : table.words ≡ 1
    pub me : seat.me ≡ (first_view, [])
