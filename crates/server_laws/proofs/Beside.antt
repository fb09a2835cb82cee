-- Lanes of several desks serve records side by side, by one history of questions.
use Rattle.std.proofs.Common.{◌≡◌, ◌≢◌, ◌∙◌, ◌⊎◌, inl, inr, ℕ, zero, suc, ◌<◌, ◌≤◌, refl, ap, sym, subst, arith, List, [], ◌∷◌, ◌++◌, length, map, slice_get, slice_set, Option, Some, None, Result}
use Rattle.std.specs.Prelude.{◌==◌, if◌then◌else◌}
use Rattle.std.proofs.lemmas.Bool.{cases_eq, cases_lt, eq-eqb, ne_eqb}
use Rattle.accept_book.specs.Booking.{BookOf}
use Rattle.accept_core.specs.declared.answer.LookRefusal.{LookRefusal}
use Rattle.accept_book.specs.declared.book_answer.Lease.{Lease}
use Rattle.accept_book.specs.declared.book_answer.Admitted.{Admitted}
use Rattle.accept_core.specs.declared.entry.Receipt.{Receipt}
use Rattle.accept_book.specs.RecordShown.{Asked, booked}
use Rattle.rpc_program.specs.Programs.{Serving}
use Rattle.gss_server.specs.Asking.{Asking, BookAnswers}
use Rattle.world_laws.specs.declared.event.Happened.{Happened}
use Rattle.world_laws.specs.declared.event.Happened.TheVariants.{Stepped}
use Rattle.world_laws.specs.Events.{IsBook, Next}
use Rattle.world_laws.specs.Lanes.{in_hand, with_lane}
use Rattle.world_laws.specs.State.{InHand, World}
use Rattle.world_runs.specs.Turning.{Turned}
use Rattle.world_runs.proofs.LaneTurns.{hand_with}
use Rattle.world_laws.proofs.Slices.{set-same, set-other}
use Rattle.server_laws.specs.Beside.{BookNote, Leaves, left_with, RunsBeside}
use Rattle.server_laws.specs.Served.{Meanwhile, event_of}
use Rattle.server_laws.proofs.Runs.{run-join, serves-stays}
use Rattle.server_laws.proofs.Chains.{BookLegal}
use Rattle.server_laws.proofs.Turns.{AsksMore, Script, turn_asked, Goes, goes}

-- ---- lists

abbrev Holds-none : {A : Type 0} → List A → Type 0
Holds-none [] = Unit {0}
Holds-none (x ∷ xs) = ⊥

none-more : {A : Type 0} (x : A) (xs : List A) → [] ≡ x ∷ xs → ⊥
none-more x xs e = subst Holds-none e tt

abbrev first-of : Asked Receipt → List (Asked Receipt) → Asked Receipt
first-of one [] = one
first-of one (x ∷ xs) = x

abbrev rest-of : List (Asked Receipt) → List (Asked Receipt)
rest-of [] = []
rest-of (x ∷ xs) = xs

same-first : (x y : Asked Receipt) (xs ys : List (Asked Receipt)) → x ∷ xs ≡ y ∷ ys → x ≡ y
same-first x y xs ys e = ap (first-of x) e

same-rest : (x y : Asked Receipt) (xs ys : List (Asked Receipt)) → x ∷ xs ≡ y ∷ ys → xs ≡ ys
same-rest x y xs ys e = ap rest-of e

-- ---- the questions of a history

-- what one desk asked, in order
abbrev pub booked_by : ℕ → List BookNote → List (Asked Receipt)
booked_by desk [] = []
booked_by desk (note ∷ notes) = if note.0 == desk then note.1 ∷ booked_by desk notes else booked_by desk notes

-- what all desks asked, in order
abbrev pub questions_in : List BookNote → List (Asked Receipt)
questions_in notes = map (λ note. note.1) notes

asked-own : (desk : ℕ) (one : Asked Receipt) (rest : List BookNote) → booked_by desk ((desk, one) ∷ rest) ≡ one ∷ booked_by desk rest
asked-own desk one rest = rw (eq-eqb desk desk refl) refl

abbrev notes_by : ℕ → List (Asked Receipt) → List BookNote
notes_by desk asked = map (λ one. (desk, one)) asked

asked-others : (desk i : ℕ) (asked : List (Asked Receipt)) (rest : List BookNote) → desk ≢ i → booked_by i (notes_by desk asked ++ rest) ≡ booked_by i rest
asked-others desk i [] rest ne = refl
asked-others desk i (one ∷ asked) rest ne = rw (ne_eqb desk i ne) (asked-others desk i asked rest ne)

with-own : (left : ℕ → List InHand) (desk : ℕ) (after : List InHand) → left_with left desk after desk ≡ after
with-own left desk after = rw (eq-eqb desk desk refl) refl

with-other : (left : ℕ → List InHand) (desk : ℕ) (after : List InHand) (other : ℕ) → desk ≢ other → left_with left desk after other ≡ left other
with-other left desk after other ne = rw (ne_eqb other desk (λ e. ne (sym e))) refl

-- ---- what is left to a desk, and the questions that are

-- records ask these questions, in order
abbrev pub Scripts : Serving → List InHand → List (Asked Receipt) → Type 0
Scripts serves [] asked = asked ≡ []
Scripts serves (hand ∷ more) asked =
    (front : List (Asked Admitted)) × (later : List (Asked Receipt)) × (asked ≡ map booked front ++ later) × (length hand.kept.draws ≡ 82) × Script serves hand.octets hand.kept.now hand.kept.draws front × Scripts serves more later

-- a lane that is free
pub record Rests (serves : Serving) (slot : Option (Option InHand)) (left : List InHand) (asked : List (Asked Receipt)) : Type 0 where
  pub free : slot ≡ Some None
  pub scripts : Scripts serves left asked

-- a lane that holds a record, to which a look was answered
pub record Amid (serves : Serving) (slot : Option (Option InHand)) (left : List InHand) (asked : List (Asked Receipt)) : Type 0 where
  pub hand : InHand
  pub more : List InHand
  pub looked : Option (Result Lease LookRefusal)
  pub one : Asked Admitted
  pub later : List (Asked Receipt)
  pub holds : slot ≡ Some (Some (hand_with hand.octets hand.kept.now hand.kept.draws looked))
  pub left_is : left ≡ hand ∷ more
  pub asked_is : asked ≡ booked one ∷ later
  pub drawn : length hand.kept.draws ≡ 82
  pub second : AsksMore serves hand.octets hand.kept.now hand.kept.draws looked one
  pub scripts : Scripts serves more later

abbrev pub Stands : Serving → Option (Option InHand) → List InHand → List (Asked Receipt) → Type 0
Stands serves slot left asked = Rests serves slot left asked ⊎ Amid serves slot left asked

stands-as : (serves : Serving) (slot other : Option (Option InHand)) (left mine : List InHand) (asked those : List (Asked Receipt)) → slot ≡ other → left ≡ mine → asked ≡ those → Stands serves other mine those → Stands serves slot left asked
stands-as serves slot other left mine asked those a b c s =
    subst (λ (x : Option (Option InHand)). Stands serves x left asked) (sym a)
    (subst (λ (x : List InHand). Stands serves other x asked) (sym b) (subst (λ (x : List (Asked Receipt)). Stands serves other mine x) (sym c) s))

-- all desks, before the rest of a history
pub record State (serves : Serving) (desks : ℕ) (lane : ℕ → ℕ) (left : ℕ → List InHand) (notes : List BookNote) (w : World) : Type 0 where
  pub same : w.serves ≡ serves
  pub legal : IsBook w.book
  pub each : (i : ℕ) → i < desks → Stands serves (slice_get w.lanes (lane i)) (left i) (booked_by i notes)
  pub behind : (i : ℕ) → desks ≤ i → left i ≡ []
  pub others : (i : ℕ) → desks ≤ i → booked_by i notes ≡ []

abbrev Apart : ℕ → (ℕ → ℕ) → Type 0
Apart desks lane = (i j : ℕ) → i < desks → j < desks → lane i ≡ lane j → i ≡ j

-- ---- one turn

state-on : (serves : Serving) (desks : ℕ) (lane : ℕ → ℕ) (apart : Apart desks lane) (left : ℕ → List InHand) (w next : World) (desk : ℕ) (slot : Option InHand) (lanes : List (Option InHand)) (asked : List (Asked Receipt)) (after : List InHand)
    (rest : List BookNote) → desk < desks → lanes ≡ w.lanes → next.lanes ≡ slice_set lanes (lane desk) slot → slice_get next.lanes (lane desk) ≡ Some slot → IsBook next.book → next.serves ≡ serves
    → Stands serves (Some slot) after (booked_by desk rest) → State serves desks lane left (notes_by desk asked ++ rest) w → State serves desks lane (left_with left desk after) rest next
state-on serves desks lane apart left w next desk slot lanes asked after rest below same is set legal stays own st = record {
  same = stays;
  legal = legal;
  each = λ i lt. elim (cases_eq desk i) [
    | inl e ↦
        subst (λ (k : ℕ). Stands serves (slice_get next.lanes (lane k)) (left_with left desk after k) (booked_by k rest)) e
        (stands-as serves (slice_get next.lanes (lane desk)) (Some slot) (left_with left desk after desk) after (booked_by desk rest) (booked_by desk rest) set (with-own left desk after) refl own)
    | inr ne ↦
        stands-as serves (slice_get next.lanes (lane i)) (slice_get w.lanes (lane i)) (left_with left desk after i) (left i) (booked_by i rest) (booked_by i (notes_by desk asked ++ rest))
        (ap (λ xs. slice_get xs (lane i)) is ∙ (set-other lanes (lane desk) (lane i) slot (λ e. ne (apart desk i below lt e)) ∙ ap (λ xs. slice_get xs (lane i)) same))
        (with-other left desk after i ne) (sym (asked-others desk i asked rest ne)) (st.each i lt)
  ];
  behind = λ i le. let ne : desk ≢ i = omega (arith, below, le) in with-other left desk after i ne ∙ st.behind i le;
  others = λ i le. let ne : desk ≢ i = omega (arith, below, le) in sym (asked-others desk i asked rest ne) ∙ st.others i le;
}

-- what follows a turn
abbrev Follows : Serving → ℕ → (ℕ → ℕ) → ((w : World) → Meanwhile w) → List BookNote → (ℕ → List InHand) → BookOf → BookOf → Type 0
Follows serves desks lane meanwhile rest left new book = (next : World) → next.book ≡ new → State serves desks lane left rest next → RunsBeside lane meanwhile rest left next book

-- a lane's event, where this is served
goes-at : (serves : Serving) (w : World) (lane : ℕ) (octets : List ℕ) (now : ℕ) (draws : List ℕ) (before left : Option InHand) (book : BookOf) (answer : Option Happened) → w.serves ≡ serves
    → slice_get w.lanes lane ≡ Some before → length draws ≡ 82 → (t : Turned serves w.book (in_hand before octets now draws) book left answer) → IsBook book
    → Goes w lane octets now draws before left book (turn_asked serves w.book (in_hand before octets now draws) book left answer t)
goes-at serves w lane octets now draws before left book answer same there drawn turned legal =
    subst (λ (v : Serving). (t : Turned v w.book (in_hand before octets now draws) book left answer) → Goes w lane octets now draws before left book (turn_asked v w.book (in_hand before octets now draws) book left answer t)) same
    (λ t. goes w lane octets now draws before left book answer there drawn t legal) turned

-- a turn of a desk's lane, with the first of its records, and what follows
turn-on : (serves : Serving) (desks : ℕ) (lane : ℕ → ℕ) (apart : Apart desks lane) (meanwhile : (w : World) → Meanwhile w) (left : ℕ → List InHand) (w : World) (book new : BookOf) (desk : ℕ) (hand : InHand) (more : List InHand)
    (before slot : Option InHand) (answer : Option Happened) (asked : List (Asked Receipt)) (after : List InHand) (rest : List BookNote)
    → desk < desks → left desk ≡ hand ∷ more → slice_get w.lanes (lane desk) ≡ Some before → length hand.kept.draws ≡ 82
    → (turned : Turned serves (meanwhile w).next.book (in_hand before hand.octets hand.kept.now hand.kept.draws) new slot answer)
    → turn_asked serves (meanwhile w).next.book (in_hand before hand.octets hand.kept.now hand.kept.draws) new slot answer turned ≡ asked → IsBook new
    → Leaves hand more (Some slot) after → Stands serves (Some slot) after (booked_by desk rest) → State serves desks lane left (notes_by desk asked ++ rest) w
    → Follows serves desks lane meanwhile rest (left_with left desk after) new book → RunsBeside lane meanwhile (notes_by desk asked ++ rest) left w book
turn-on serves desks lane apart meanwhile left w book new desk hand more before slot answer asked after rest below first was drawn turned asks legal leaves own st follows =
    let m = meanwhile w in
    let there : slice_get m.next.lanes (lane desk) ≡ Some before = ap (λ xs. slice_get xs (lane desk)) m.lanes ∙ was in
    let stays : m.next.serves ≡ serves = serves-stays w m.events m.next m.run ∙ st.same in
    let g = goes-at serves m.next (lane desk) hand.octets hand.kept.now hand.kept.draws before slot new answer stays there drawn turned legal in
    let next = with_lane m.next (lane desk) slot new g.deed in
    let set : slice_get next.lanes (lane desk) ≡ Some slot = set-same m.next.lanes (lane desk) slot before there in
    let goes_on : Next m.next (event_of (lane desk) hand) = record { deed = g.deed; world = next; happens = g.happens } in
    let r = follows next refl (state-on serves desks lane apart left w next desk slot m.next.lanes asked after rest below m.lanes refl set legal stays own st) in record {
      events = m.events ++ event_of (lane desk) hand ∷ r.events;
      next = r.next;
      run = run-join w m.next r.next m.events (event_of (lane desk) hand ∷ r.events) m.run (goes_on, r.run);
      order = desk ∷ r.order;
      turns = (
        record {
          hand = hand;
          more = more;
          first = first;
          next = goes_on;
          before = before;
          there = there;
          moves = g.moves;
          after = after;
          leaves = subst (λ (s : Option (Option InHand)). Leaves hand more s after) (sym set) leaves;
        },
        rest,
        ap (λ xs. notes_by desk xs ++ rest) (sym (g.asks ∙ asks)),
        r.events,
        refl,
        r.turns,
      );
      booked = r.booked;
    }

-- what was answered before is answered after what happens meanwhile
answers-then : (w : World) (m : Meanwhile w) (one other : Asked Receipt) (new : BookOf) → one ≡ other → BookAnswers w.book one new → BookAnswers m.next.book other new
answers-then w m one other new same answers =
    subst (λ (b : BookOf). BookAnswers b other new) (sym m.book) (subst (λ (x : Asked Receipt). BookAnswers w.book x new) same answers)

-- ---- one question of the history

-- what follows a question, whatever is left to the desks then
abbrev FollowsAll : Serving → ℕ → (ℕ → ℕ) → ((w : World) → Meanwhile w) → List BookNote → BookOf → BookOf → Type 0
FollowsAll serves desks lane meanwhile rest new book = (left : ℕ → List InHand) → Follows serves desks lane meanwhile rest left new book

-- it is asked for the record that the desk's lane holds
amid-on : (serves : Serving) (desks : ℕ) (lane : ℕ → ℕ) (apart : Apart desks lane) (meanwhile : (w : World) → Meanwhile w) (desk : ℕ) (one : Asked Receipt) (rest : List BookNote) (book new : BookOf) (left : ℕ → List InHand) (w : World)
    → desk < desks → FollowsAll serves desks lane meanwhile rest new book → BookLegal w.book one new → State serves desks lane left ((desk, one) ∷ rest) w
    → Amid serves (slice_get w.lanes (lane desk)) (left desk) (booked_by desk ((desk, one) ∷ rest)) → RunsBeside lane meanwhile ((desk, one) ∷ rest) left w book
amid-on serves desks lane apart meanwhile desk one rest book new left w below follows answers st a =
    let is : booked a.one ∷ a.later ≡ one ∷ booked_by desk rest = sym a.asked_is ∙ asked-own desk one rest in
    let same : booked a.one ≡ one = same-first (booked a.one) one a.later (booked_by desk rest) is in
    let t = a.second.turned (meanwhile w).next.book new (answers-then w (meanwhile w) one (booked a.one) new (sym same) answers.0) in
    turn-on serves desks lane apart meanwhile left w book new desk a.hand a.more (Some (hand_with a.hand.octets a.hand.kept.now a.hand.kept.draws a.looked)) None a.second.answer (one ∷ []) a.more rest
    below a.left_is a.holds a.drawn (inr t.0) (ap (λ x. x ∷ []) (ap booked t.1 ∙ same)) answers.1 refl
    (inl (record { free = refl; scripts = subst (λ (xs : List (Asked Receipt)). Scripts serves a.more xs) (same-rest (booked a.one) one a.later (booked_by desk rest) is) a.scripts }))
    st (follows (left_with left desk a.more))

-- it is asked for a record that the lane takes, behind one that asks nothing perhaps
front-on : (serves : Serving) (desks : ℕ) (lane : ℕ → ℕ) (apart : Apart desks lane) (meanwhile : (w : World) → Meanwhile w) (desk : ℕ) (one : Asked Receipt) (rest : List BookNote) (book new : BookOf) (left : ℕ → List InHand) (w : World)
    (hand : InHand) (more : List InHand) (front : List (Asked Admitted)) (later : List (Asked Receipt)) → desk < desks → FollowsAll serves desks lane meanwhile rest new book
    → Follows serves desks lane meanwhile ((desk, one) ∷ rest) (left_with left desk more) (meanwhile w).next.book book → BookLegal w.book one new → State serves desks lane left ((desk, one) ∷ rest) w → left desk ≡ hand ∷ more
    → slice_get w.lanes (lane desk) ≡ Some None → one ∷ booked_by desk rest ≡ map booked front ++ later → length hand.kept.draws ≡ 82 → Scripts serves more later
    → Script serves hand.octets hand.kept.now hand.kept.draws front → RunsBeside lane meanwhile ((desk, one) ∷ rest) left w book
front-on serves desks lane apart meanwhile desk one rest book new left w hand more front later below follows again answers st first free is drawn scripts (inl s) =
    let left_is : later ≡ booked_by desk ((desk, one) ∷ rest) = sym (asked-own desk one rest ∙ (is ∙ ap (λ (xs : List (Asked Admitted)). map booked xs ++ later) s.none)) in
    let m = meanwhile w in
    turn-on serves desks lane apart meanwhile left w book m.next.book desk hand more None None s.answer [] more ((desk, one) ∷ rest) below first free drawn (inl (s.turned m.next.book)) refl
    (subst IsBook (sym m.book) st.legal) refl
    (inl (record { free = refl; scripts = subst (λ (xs : List (Asked Receipt)). Scripts serves more xs) left_is scripts })) st again
front-on serves desks lane apart meanwhile desk one rest book new left w hand more front later below follows again answers st first free is drawn scripts (inr (inl s)) =
    let same : one ∷ booked_by desk rest ≡ booked s.one ∷ later = is ∙ ap (λ (xs : List (Asked Admitted)). map booked xs ++ later) s.only in
    let is_one : one ≡ booked s.one = same-first one (booked s.one) (booked_by desk rest) later same in
    let t = s.turned (meanwhile w).next.book new (answers-then w (meanwhile w) one (booked s.one) new is_one answers.0) in
    turn-on serves desks lane apart meanwhile left w book new desk hand more None None s.answer (one ∷ []) more rest below first free drawn (inr t.0) (ap (λ x. x ∷ []) (ap booked t.1 ∙ sym is_one)) answers.1 refl
    (inl (record { free = refl; scripts = subst (λ (xs : List (Asked Receipt)). Scripts serves more xs) (sym (same-rest one (booked s.one) (booked_by desk rest) later same)) scripts }))
    st (follows (left_with left desk more))
front-on serves desks lane apart meanwhile desk one rest book new left w hand more front later below follows again answers st first free is drawn scripts (inr (inr s)) =
    let same : one ∷ booked_by desk rest ≡ booked s.look ∷ booked s.one ∷ later = is ∙ ap (λ (xs : List (Asked Admitted)). map booked xs ++ later) s.both in
    let is_look : one ≡ booked s.look = same-first one (booked s.look) (booked_by desk rest) (booked s.one ∷ later) same in
    let t = s.first (meanwhile w).next.book new (answers-then w (meanwhile w) one (booked s.look) new is_look answers.0) in
    turn-on serves desks lane apart meanwhile left w book new desk hand more None (Some (hand_with hand.octets hand.kept.now hand.kept.draws s.looked)) (Some (Stepped 0)) (one ∷ []) (hand ∷ more) rest
    below first free drawn (inr t.0) (ap (λ x. x ∷ []) (ap booked t.1 ∙ sym is_look)) answers.1
    (record { octets = refl; now = refl; draws = refl }, refl)
    (inr (record {
      hand = hand;
      more = more;
      looked = s.looked;
      one = s.one;
      later = later;
      holds = refl;
      left_is = refl;
      asked_is = same-rest one (booked s.look) (booked_by desk rest) (booked s.one ∷ later) same;
      drawn = drawn;
      second = s.second;
      scripts = scripts;
    }))
    st (follows (left_with left desk (hand ∷ more)))

-- it is asked, behind the records of its desk that ask nothing
note-on : (serves : Serving) (desks : ℕ) (lane : ℕ → ℕ) (apart : Apart desks lane) (meanwhile : (w : World) → Meanwhile w) (desk : ℕ) (one : Asked Receipt) (rest : List BookNote) (book new : BookOf) → desk < desks
    → FollowsAll serves desks lane meanwhile rest new book → (hands : List InHand) (left : ℕ → List InHand) (w : World) → left desk ≡ hands → BookLegal w.book one new
    → State serves desks lane left ((desk, one) ∷ rest) w → RunsBeside lane meanwhile ((desk, one) ∷ rest) left w book
note-on serves desks lane apart meanwhile desk one rest book new below follows [] left w first answers st =
    elim (st.each desk below) [
      | inl r ↦
          absurd (none-more one (booked_by desk rest)
          (sym (subst (λ (hs : List InHand). Scripts serves hs (booked_by desk ((desk, one) ∷ rest))) first r.scripts) ∙ asked-own desk one rest))
      | inr a ↦ amid-on serves desks lane apart meanwhile desk one rest book new left w below follows answers st a
    ]
note-on serves desks lane apart meanwhile desk one rest book new below follows (hand ∷ more) left w first answers st =
    elim (st.each desk below) [
      | inl r ↦
          let s = subst (λ (hs : List InHand). Scripts serves hs (booked_by desk ((desk, one) ∷ rest))) first r.scripts in
          front-on serves desks lane apart meanwhile desk one rest book new left w hand more s.0 s.1 below follows
          (λ next same on. note-on serves desks lane apart meanwhile desk one rest book new below follows more (left_with left desk more) next (with-own left desk more)
          (subst (λ (b : BookOf). BookLegal b one new) (sym (same ∙ (meanwhile w).book)) answers) on)
          answers st first r.free (sym (asked-own desk one rest) ∙ s.2) s.3 s.5 s.4
      | inr a ↦ amid-on serves desks lane apart meanwhile desk one rest book new left w below follows answers st a
    ]

-- ---- records that ask nothing, after the last question

-- nothing is left to this desk, and to those behind it
abbrev Drained : ℕ → (ℕ → List InHand) → Type 0
Drained desk left = (i : ℕ) → desk ≤ i → left i ≡ []

drained-more : (desk : ℕ) (left : ℕ → List InHand) → left desk ≡ [] → Drained (suc desk) left → Drained desk left
drained-more desk left own behind i le =
    elim (cases_eq desk i) [ inl e ↦ subst (λ (k : ℕ). left k ≡ []) e own | inr ne ↦ let lt : suc desk ≤ i = omega (arith, le, ne) in behind i lt ]

-- the desk's records are answered
drain-on : (serves : Serving) (desks : ℕ) (lane : ℕ → ℕ) (apart : Apart desks lane) (meanwhile : (w : World) → Meanwhile w) (desk : ℕ) (book : BookOf) → desk < desks
    → ((left : ℕ → List InHand) (next : World) → next.book ≡ book → Drained desk left → State serves desks lane left [] next → RunsBeside lane meanwhile [] left next book)
    → (hands : List InHand) (left : ℕ → List InHand) (w : World) → left desk ≡ hands → w.book ≡ book → Drained (suc desk) left → State serves desks lane left [] w
    → RunsBeside lane meanwhile [] left w book
drain-on serves desks lane apart meanwhile desk book below follows [] left w first is behind st = follows left w is (drained-more desk left first behind) st
drain-on serves desks lane apart meanwhile desk book below follows (hand ∷ more) left w first is behind st =
    elim (st.each desk below) [
      | inl r ↦
          let s = subst (λ (hs : List InHand). Scripts serves hs []) first r.scripts in
          elim s.4 [
            | inl none ↦
                let m = meanwhile w in
                turn-on serves desks lane apart meanwhile left w book m.next.book desk hand more None None none.answer [] more [] below first r.free s.3 (inl (none.turned m.next.book)) refl
                (subst IsBook (sym m.book) st.legal) refl
                (inl (record { free = refl; scripts = subst (λ (xs : List (Asked Receipt)). Scripts serves more xs) (sym (s.2 ∙ ap (λ (xs : List (Asked Admitted)). map booked xs ++ s.1) none.none)) s.5 })) st
                (λ next same on. drain-on serves desks lane apart meanwhile desk book below follows more (left_with left desk more) next (with-own left desk more) (same ∙ ((meanwhile w).book ∙ is))
                (λ i le. let ne : desk ≢ i = omega (arith, le) in with-other left desk more i ne ∙ behind i le) on)
            | inr (inl some) ↦ absurd (none-more (booked some.one) s.1 (s.2 ∙ ap (λ (xs : List (Asked Admitted)). map booked xs ++ s.1) some.only))
            | inr (inr two) ↦ absurd (none-more (booked two.look) (booked two.one ∷ s.1) (s.2 ∙ ap (λ (xs : List (Asked Admitted)). map booked xs ++ s.1) two.both))
          ]
      | inr a ↦ absurd (none-more (booked a.one) a.later a.asked_is)
    ]

-- those of all desks below this number
finish : (serves : Serving) (desks : ℕ) (lane : ℕ → ℕ) (apart : Apart desks lane) (meanwhile : (w : World) → Meanwhile w) (book : BookOf) (desk : ℕ) → desk ≤ desks → (left : ℕ → List InHand) (w : World) → w.book ≡ book
    → Drained desk left → State serves desks lane left [] w → RunsBeside lane meanwhile [] left w book
finish serves desks lane apart meanwhile book zero le left w is gone st =
    let m = meanwhile w in record {
      events = m.events;
      next = m.next;
      run = m.run;
      order = [];
      turns = (λ desk. let least : zero ≤ desk = omega arith in gone desk least, refl, refl, refl);
      booked = m.book ∙ is;
    }
finish serves desks lane apart meanwhile book (suc desk) le left w is gone st =
    let below : desk < desks = omega (arith, le) in
    let fewer : desk ≤ desks = omega (arith, le) in
    drain-on serves desks lane apart meanwhile desk book below (λ later next same drained on. finish serves desks lane apart meanwhile book desk fewer later next same drained on) (left desk) left w refl is gone st

-- ---- the whole history

desk-below : (serves : Serving) (desks : ℕ) (lane : ℕ → ℕ) (left : ℕ → List InHand) (note : BookNote) (rest : List BookNote) (w : World) → State serves desks lane left (note ∷ rest) w → note.0 < desks
desk-below serves desks lane left note rest w st =
    elim (cases_lt note.0 desks) [
      | inl lt ↦ lt
      | inr le ↦ absurd (none-more note.1 (booked_by note.0 rest) (sym (st.others note.0 le) ∙ asked-own note.0 note.1 rest))
    ]

pub beside : (serves : Serving) (desks : ℕ) (lane : ℕ → ℕ) (apart : (i j : ℕ) → i < desks → j < desks → lane i ≡ lane j → i ≡ j) (meanwhile : (w : World) → Meanwhile w) (book : BookOf) (notes : List BookNote)
    (left : ℕ → List InHand) (w : World) → State serves desks lane left notes w → Asking BookLegal w.book (questions_in notes) book → RunsBeside lane meanwhile notes left w book
beside serves desks lane apart meanwhile book [] left w st chain =
    let all : desks ≤ desks = omega arith in finish serves desks lane apart meanwhile book desks all left w (sym chain) st.behind st
beside serves desks lane apart meanwhile book (note ∷ rest) left w st chain =
    note-on serves desks lane apart meanwhile note.0 note.1 rest book chain.0 (desk-below serves desks lane left note rest w st)
    (λ later next same on. beside serves desks lane apart meanwhile book rest later next on (subst (λ (b : BookOf). Asking BookLegal b (questions_in rest) book) (sym same) chain.2))
    (left note.0) left w refl chain.1 st
