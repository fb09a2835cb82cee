-- What the seats of the table know of the history: the writer knows all of it, and each clerk what
-- stood in it when its desk asked last. The history exists in the proofs alone.
use Rattle.std.specs.Prelude.{◌≡◌, ℕ, ◌+◌, ◌<◌, ◌≤◌, Bool, true, false, List, [], ◌∷◌, ◌++◌, Err}
use Rattle.std.specs.Prelude.{None}
use mathlib.Core.Option.{some}
use lib.ListN.{get_elem?}
use Rattle.atomic_table.specs.Table.{State, Me, Step}
use Rattle.atomic_table.specs.Seated.{TableId}
use Rattle.atomic_table.specs.declared.shared.Seat.{Seat}
use Rattle.spnego_core.specs.declared.setup.AcceptSetup.{AcceptSetup}
use Rattle.accept_book.specs.RecordShown.{AskedLook}
use Rattle.accept_core.specs.declared.answer.LookRefusal.TheVariants.{NoContext}
use Rattle.book_seats.specs.Notes.{Note, Noted, StartsWith, noted_by}

-- the name of no table
abbrev pub no_table : TableId
no_table = record {
  words = 0;
  slots = 0;
  views_name = 0;
  atom = 0;
  block = 0;
  offset = 0;
  slot_names = [];
}

-- the setup of nobody, who offers no mechanism
abbrev pub no_setup : AcceptSetup
no_setup = record {
  own = record { realm = []; parts = [] };
  keytab = [];
  verifiers = [];
  bindings = None;
  offer = [];
  bare = false;
}

-- a question that stands for any other
abbrev pub blank : {T : Type 0} → Noted T
blank = AskedLook 0 0 (Err NoContext)

-- what a seat knows. One that writes knows all notes, and how many clerks there are; one that
-- claims a desk knows its number, and the notes up to the last that the desk asked for
pub record ViewOf (T : Type 0) : Type 0 where
  pub writes : Bool
  pub all : List (Note T)
  pub made : ℕ
  pub claims : Bool
  pub desk : ℕ
  pub seen : List (Note T)

-- the writer
abbrev pub writer : {T : Type 0} → ℕ → List (Note T) → ViewOf T
writer made all =
    record { writes = true; all = all; made = made; claims = false; desk = 0; seen = [] }

-- a desk's clerk
abbrev pub clerk : {T : Type 0} → ℕ → List (Note T) → ViewOf T
clerk desk seen =
    record { writes = false; all = []; made = 0; claims = true; desk = desk; seen = seen }

-- the writer with a clerk's desk in hand
abbrev pub busy : {T : Type 0} → ℕ → List (Note T) → ℕ → List (Note T) → ViewOf T
busy made all desk seen =
    record { writes = true; all = all; made = made; claims = true; desk = desk; seen = seen }

-- a seat that knows nothing
abbrev pub nobody : {T : Type 0} → ViewOf T
nobody = record { writes = false; all = []; made = 0; claims = false; desk = 0; seen = [] }

-- ---- how views are cut and joined

-- one clerk more is there
abbrev pub with_one_more : {T : Type 0} → ViewOf T → ViewOf T
with_one_more v = record {
  writes = v.writes;
  all = v.all;
  made = v.made + 1;
  claims = v.claims;
  desk = v.desk;
  seen = v.seen;
}

-- the clerk that is made next
abbrev pub new_clerk : {T : Type 0} → ViewOf T → ViewOf T
new_clerk v = clerk v.made v.all

-- the writer takes a clerk's desk in hand
abbrev pub holding : {T : Type 0} → ViewOf T → ViewOf T → ViewOf T
holding v w = record {
  writes = v.writes;
  all = v.all;
  made = v.made;
  claims = w.claims;
  desk = w.desk;
  seen = w.seen;
}

-- the writer notes a question of the desk in hand, and hands the desk back
abbrev pub noting : {T : Type 0} → Noted T → ViewOf T → ViewOf T
noting one v = writer v.made (v.all ++ (v.desk, one) ∷ [])

-- what the clerk of that desk knows then
abbrev pub noted : {T : Type 0} → Noted T → ViewOf T → ViewOf T
noted one v = clerk v.desk (v.all ++ (v.desk, one) ∷ [])

-- ---- the rule

-- a seat that writes is the one writer, and knows the history; a seat that claims a desk owns it,
-- and has seen a front of the history with all that the desk asked
abbrev pub Fits : {T : Type 0} → ℕ → ℕ → (ℕ → ℕ) → List (Note T) → ℕ → ViewOf T → Type 0
Fits seat made owner log by v =
    (v.writes ≡ true → (by ≡ seat) × (v.all ≡ log) × (v.made ≡ made))
    × (v.claims ≡ true → (v.desk < made) × (owner v.desk ≡ by) × StartsWith log v.seen
    × (noted_by v.desk log ≡ noted_by v.desk v.seen))

-- there is one history, and no desk without a clerk stands in it
abbrev pub Kept : {T : Type 0} → State Unit (ViewOf T) → Type 0
Kept {T} s = (seat made : ℕ) × (owner : ℕ → ℕ) × (log : List (Note T))
    × ((desk : ℕ) → made ≤ desk → noted_by desk log ≡ [])
    × ((by : ℕ) (v : ViewOf T) → get_elem? s.views by ≡ some v → Fits seat made owner log by v)

-- the writer looks at the desk in hand: the history begins with what the desk has seen, and what
-- came since is of other desks
abbrev pub Looks : {T : Type 0} → Step Unit → Me Unit (ViewOf T) → ℕ → Me Unit (ViewOf T) → Type 0
Looks step m found m' = (m' ≡ m)
    × (m.0.claims ≡ true → StartsWith m.0.all m.0.seen
    × (noted_by m.0.desk m.0.all ≡ noted_by m.0.desk m.0.seen))

-- the writer compares the desk in hand with the history, and lets it go
abbrev pub Compares : {T : Type 0} → Step Unit → Me Unit (ViewOf T) → ℕ → Me Unit (ViewOf T)
    → Type 0
Compares step m found m' = (m' ≡ (writer m.0.made m.0.all, m.1))
    × (m.0.claims ≡ true → noted_by m.0.desk m.0.all ≡ noted_by m.0.desk m.0.seen)
    × ((desk : ℕ) → m.0.made ≤ desk → noted_by desk m.0.all ≡ [])

-- ---- what contracts see

-- of the writer: how many clerks there are, and the history
pub record WriterOf (T : Type 0) : Type 0 where
  pub made : ℕ
  pub all : List (Note T)

-- of a clerk: the number of its desk, and the history up to the desk's last question
pub record ClerkOf (T : Type 0) : Type 0 where
  pub desk : ℕ
  pub seen : List (Note T)

-- the token is the writer's, at this table
abbrev pub IsWriter : {T : Type 0} → TableId → Seat Unit (ViewOf T) → Type 0
IsWriter table token = (token.table_id ≡ table)
    × (token.me ≡ (writer token.me.0.made token.me.0.all, []))

-- the token is a clerk's, at this table
abbrev pub IsClerk : {T : Type 0} → TableId → Seat Unit (ViewOf T) → Type 0
IsClerk table token = (token.table_id ≡ table)
    × (token.me ≡ (clerk token.me.0.desk token.me.0.seen, []))
