-- The context that goes for a step: it lives, one at most is it, and what is known once it is gone.
use Rattle.std.proofs.Common.{◌≡◌, ℕ, ◌+◌, ◌<◌, ◌≤◌, ◌&&◌, Bool, true, false, List, [], ◌∷◌, ◌++◌, Option, None, Some, length, is_some, is_none, IsSomeAnd, refl, sym, ◌∙◌, ap, subst, inl, inr, arith, nat_le, length-append}
use Rattle.std.specs.List.{slice_get}
use Rattle.std.proofs.lemmas.Bool.{cases_eq, cases_lt, cases_Bool, eq-eqb, ne_eqb, and_parts, and_cases, leb-true, leb-false, false≢true}
use Rattle.use_order.specs.Orders.{is_among, without}
use Rattle.use_order.proofs.Rings.{among-here, length-without}
use Rattle.replay_cache.specs.Taking.{Cached}
use Rattle.context_table.specs.declared.slot.Slot.{Slot}
use Rattle.context_table.specs.declared.slot.SlotState.{SlotState}
use Rattle.context_table.specs.declared.slot.SlotState.TheVariants.{Negotiating, Held, Complete}
use Rattle.context_table.specs.Slots.{IsHeldState}
use Rattle.context_table.specs.Places.{Places, slot_at, live_of, IsHeld, IsPast, IsWaiting, is_waiting}
use Rattle.context_table.specs.Queues.{touched}
use Rattle.accept_core.specs.declared.entry.Entry.{Entry}
use Rattle.accept_core.specs.declared.answer.Next.{Next}
use Rattle.accept_core.specs.History.{Standing, Unknown, Open, Whole, Over, standing, numbers, IsOpen, IsLive, is_whole}
use Rattle.accept_core.specs.Aging.{in_use, most_whole}
use Rattle.accept_core.specs.Replays.{Naming, SameState, SameSlot, Replays}
use Rattle.accept_core.specs.Stepping.{GoesBy, Goes, IsNext, gone_of, goes_by, settles, is_crowded, is_full, IsNoRoom, Context, context_of, ends_at, SameWindow}
use Rattle.accept_core.proofs.Appended.{live-whole, lives-slot, open-held}
use Rattle.accept_core.proofs.Lapses.{past-clash}
use Rattle.accept_core.proofs.Uses.{uses, Uses}

-- ---- how many are in use

pub touched-among : (id : ℕ) (xs : List ℕ) → is_among id xs ≡ true → touched id xs ≡ without id xs ++ id ∷ []
touched-among id xs there = rw there refl

pub moved-length : (id : ℕ) (xs : List ℕ) → is_among id xs ≡ true → length (without id xs ++ id ∷ []) ≡ length xs
moved-length id xs there = length-append (without id xs) (id ∷ []) ∙ length-without id xs there

pub without-most : (id : ℕ) (xs : List ℕ) → length (without id xs) ≤ length xs
without-most id [] = omega arith
without-most id (x ∷ xs) =
    elim (cases_eq x id) [
      | inl same ↦ rw (eq-eqb x id same) (omega arith)
      | inr ne ↦ rw (ne_eqb x id ne) (let rest : length (without id xs) ≤ length xs = without-most id xs in omega (arith, rest))
    ]

-- the first of them leaves fewer
first-fewer : (xs : List ℕ) (id : ℕ) → Some id ≡ slice_get xs 0 → length (without id xs) + 1 ≡ length xs
first-fewer [] id e = absurd cc
first-fewer (x ∷ xs) id e = let same : x ≡ id = cc in rw (eq-eqb x id same) (omega arith)

first-among : (xs : List ℕ) (id : ℕ) → Some id ≡ slice_get xs 0 → is_among id xs ≡ true
first-among [] id e = absurd cc
first-among (x ∷ xs) id e = let same : x ≡ id = cc in among-here id x xs same

none-empty : (xs : List ℕ) → None ≡ slice_get xs 0 → length xs ≡ 0
none-empty [] e = refl
none-empty (x ∷ xs) e = absurd cc

-- ---- it lives

some-of : {X : Type 0} (P : X → Type 0) (o : Option X) → IsSomeAnd o P → is_some o ≡ true
some-of P None h = absurd h
some-of P (Some x) h = refl

waits-some : {N S : Type 0} (o : Option (Slot N S)) → is_waiting o ≡ true → is_some o ≡ true
waits-some None w = w
waits-some (Some s) w = refl

stands-live : {N S : Type 0} (naming : Naming S) (stands : Standing) (state : SlotState N S) (ends : ℕ) → SameState naming stands state ends → IsLive stands
stands-live naming Unknown state ends same = same
stands-live naming (Open at) state ends same = tt
stands-live naming (Whole mech names until) state ends same = tt
stands-live naming Over state ends same = same

some-live : {N S : Type 0} (naming : Naming S) (wide : ℕ) (stands : Standing) (ns : List ℕ) (slot : Option (Slot N S)) → SameSlot naming wide slot stands ns → is_some slot ≡ true → IsLive stands
some-live naming wide stands ns None same w = absurd (false≢true w)
some-live naming wide stands ns (Some s) same w = stands-live naming stands s.state s.ends same.state

by-some : {N S : Type 0} (naming : Naming S) (wide : ℕ) (crowded full : Bool) (h : List Entry) (table : Places N S) (cache : Cached) (now id : ℕ) → Replays naming wide h table cache
    → GoesBy crowded full (slice_get (in_use h) 0) table now (Some id) → is_some (slot_at table id) ≡ true
by-some naming wide true full h table cache now id r g =
    let u : Uses h = uses wide h r.legal in
    let there : is_among id (in_use h) ≡ true = first-among (in_use h) id g in
    lives-slot naming wide (standing id h) (numbers id h) (slot_at table id) (r.slots id) (live-whole (standing id h) (sym (u.members id) ∙ there))
by-some {N = N} {S = S} naming wide false true h table cache now id r (inl past) = some-of (λ (slot : Slot N S). slot.ends < now) (slot_at table id) past.0
by-some naming wide false true h table cache now id r (inr waiting) = waits-some (slot_at table id) (waiting.2).0
by-some naming wide false false h table cache now id r g = absurd cc

pub goes-some : {N S : Type 0} (naming : Naming S) (wide : ℕ) (settles first : Bool) (h : List Entry) (table : Places N S) (cache : Cached) (now id : ℕ) → Replays naming wide h table cache
    → Goes settles first h table now (Some id) → is_some (slot_at table id) ≡ true
goes-some naming wide settles first h table cache now id r g =
    by-some naming wide (is_crowded settles h table.limit) (is_full first table) h table cache now id r g

pub goes-live : {N S : Type 0} (naming : Naming S) (wide : ℕ) (settles first : Bool) (h : List Entry) (table : Places N S) (cache : Cached) (now id : ℕ) → Replays naming wide h table cache
    → Goes settles first h table now (Some id) → IsLive (standing id h)
goes-live naming wide settles first h table cache now id r g =
    some-live naming wide (standing id h) (numbers id h) (slot_at table id) (r.slots id) (goes-some naming wide settles first h table cache now id r g)

-- ---- one at most goes

past-same : {N S : Type 0} (table : Places N S) (now id other : ℕ) → IsPast table now (Some id) → IsPast table now (Some other) → id ≡ other
past-same table now id other a b =
    elim (cases_eq id other) [
      | inl same ↦ same
      | inr apart ↦
          elim (cases_lt id other) [
            | inl below ↦ absurd (past-clash table now id a.0 (b.1 id below))
            | inr above ↦ absurd (past-clash table now other b.0 (a.1 other (omega (arith, above, apart))))
          ]
    ]

waiting-same : {N S : Type 0} (table : Places N S) (id other : ℕ) → IsWaiting table (Some id) → IsWaiting table (Some other) → id ≡ other
waiting-same table id other a b =
    elim (cases_eq id other) [
      | inl same ↦ same
      | inr apart ↦
          elim (cases_lt id other) [
            | inl below ↦ absurd (false≢true (sym (b.1 id below) ∙ a.0))
            | inr above ↦ absurd (false≢true (sym (a.1 other (omega (arith, above, apart))) ∙ b.0))
          ]
    ]

-- nothing is next and something is
pub next-clash : {N S : Type 0} (table : Places N S) (now id : ℕ) → IsNext table now None → IsNext table now (Some id) → ⊥
next-clash table now id x (inl past) = past-clash table now id past.0 (x.0 id)
next-clash table now id x (inr waiting) = false≢true (sym (x.1 waiting.1 id) ∙ (waiting.2).0)

pub next-same : {N S : Type 0} (table : Places N S) (now : ℕ) (a b : Option ℕ) → IsNext table now a → IsNext table now b → a ≡ b
next-same table now None None x y = refl
next-same table now None (Some b) x y = absurd (next-clash table now b x y)
next-same table now (Some a) None x y = absurd (next-clash table now a y x)
next-same table now (Some a) (Some b) (inl x) (inl y) = ap (λ (i : ℕ). Some i) (past-same table now a b x y)
next-same table now (Some a) (Some b) (inl x) (inr y) = absurd (past-clash table now a x.0 (y.0 a))
next-same table now (Some a) (Some b) (inr x) (inl y) = absurd (past-clash table now b y.0 (x.0 b))
next-same table now (Some a) (Some b) (inr x) (inr y) = ap (λ (i : ℕ). Some i) (waiting-same table a b x.2 y.2)

by-same : {N S : Type 0} (crowded full : Bool) (oldest : Option ℕ) (table : Places N S) (now : ℕ) (a b : Option ℕ) → GoesBy crowded full oldest table now a → GoesBy crowded full oldest table now b → a ≡ b
by-same true full oldest table now a b x y = x ∙ sym y
by-same false true oldest table now a b x y = next-same table now a b x y
by-same false false oldest table now a b x y = x ∙ sym y

pub goes-same : {N S : Type 0} (settles first : Bool) (h : List Entry) (table : Places N S) (now : ℕ) (a b : Option ℕ) → Goes settles first h table now a → Goes settles first h table now b → a ≡ b
goes-same settles first h table now a b x y =
    by-same (is_crowded settles h table.limit) (is_full first table) (slice_get (in_use h) 0) table now a b x y

-- ---- by the next, which a first token alone needs

gone-goes : {N S : Type 0} (crowded full : Bool) (oldest : Option ℕ) (table : Places N S) (now : ℕ) (next : Option ℕ) → (full ≡ true → IsNext table now next)
    → GoesBy crowded full oldest table now (gone_of crowded full oldest next)
gone-goes true full oldest table now next is = refl
gone-goes false true oldest table now next is = is refl
gone-goes false false oldest table now next is = refl

full-none : {N S : Type 0} (id : Option ℕ) (table : Places N S) → is_full (is_none id) table ≡ true → id ≡ None
full-none None table e = refl
full-none (Some id) table e = absurd (false≢true e)

pub goes-by-next : {N S : Type 0} (id : Option ℕ) (step : Next N S) (next : Option ℕ) (h : List Entry) (table : Places N S) (now : ℕ) → (id ≡ None → IsNext table now next)
    → Goes (settles step) (is_none id) h table now (goes_by id step next h table)
goes-by-next id step next h table now is =
    gone-goes (is_crowded (settles step) h table.limit) (is_full (is_none id) table) (slice_get (in_use h) 0) table now next (λ full. is (full-none id table full))

-- the same by whether the step was found to settle
pub goes-settled : {N S : Type 0} (id : Option ℕ) (step : Next N S) (settled : Bool) (h : List Entry) (table : Places N S) (now : ℕ) (next : Option ℕ) → settled ≡ settles step → (id ≡ None → IsNext table now next)
    → Goes settled (is_none id) h table now (goes_by id step next h table)
goes-settled id step settled h table now next same is =
    subst (λ (b : Bool). Goes b (is_none id) h table now (goes_by id step next h table)) (sym same) (goes-by-next id step next h table now is)

-- ---- what is known where none goes, and of the one that goes

crowded-parts : (settles : Bool) (h : List Entry) (limit : ℕ) → is_crowded settles h limit ≡ true → most_whole limit ≤ length (in_use h)
crowded-parts settles h limit e = leb-true (most_whole limit) (length (in_use h)) (and_parts settles (nat_le (most_whole limit) (length (in_use h))) e).1

crowded-not : (settles : Bool) (h : List Entry) (limit : ℕ) → is_crowded settles h limit ≡ false → settles ≡ true → length (in_use h) < most_whole limit
crowded-not settles h limit e holds =
    elim (and_cases settles (nat_le (most_whole limit) (length (in_use h))) e) [
      | inl fails ↦ absurd (false≢true (sym fails ∙ holds))
      | inr less ↦ leb-false (most_whole limit) (length (in_use h)) less
    ]

full-not : {N S : Type 0} (first : Bool) (table : Places N S) → is_full first table ≡ false → first ≡ true → live_of table < table.limit
full-not first table e holds =
    elim (and_cases first (nat_le table.limit (live_of table)) e) [
      | inl fails ↦ absurd (false≢true (sym fails ∙ holds))
      | inr less ↦ leb-false table.limit (live_of table) less
    ]

one-at-least : (limit : ℕ) → 0 < most_whole limit
one-at-least limit = omega arith

none-crowded : {N S : Type 0} (settles full : Bool) (h : List Entry) (table : Places N S) (now : ℕ) → GoesBy (is_crowded settles h table.limit) full (slice_get (in_use h) 0) table now None
    → is_crowded settles h table.limit ≡ false
none-crowded settles full h table now g =
    elim (cases_Bool (is_crowded settles h table.limit)) [
      | inl holds ↦
          let empty : None ≡ slice_get (in_use h) 0 = subst (λ (b : Bool). GoesBy b full (slice_get (in_use h) 0) table now None) holds g in
          let most : most_whole table.limit ≤ length (in_use h) = crowded-parts settles h table.limit holds in
          absurd (omega (arith, most, none-empty (in_use h) empty, one-at-least table.limit))
      | inr fails ↦ fails
    ]

pub none-place : {N S : Type 0} (settles first : Bool) (h : List Entry) (table : Places N S) (now : ℕ) → Goes settles first h table now None
    → first ≡ true → (IsNoRoom table now → ⊥) → live_of table < table.limit
none-place settles first h table now g holds never =
    let oldest : Option ℕ = slice_get (in_use h) 0 in
    let free : is_crowded settles h table.limit ≡ false = none-crowded settles (is_full first table) h table now g in
    let g2 : GoesBy false (is_full first table) oldest table now None = subst (λ (b : Bool). GoesBy b (is_full first table) oldest table now None) free g in
    elim (cases_Bool (is_full first table)) [
      | inl full ↦
          let g3 : IsNext table now None = subst (λ (b : Bool). GoesBy false b oldest table now None) full g2 in
          absurd (never (record {
            full = leb-true table.limit (live_of table) (and_parts first (nat_le table.limit (live_of table)) full).1;
            next = g3;
          }))
      | inr room ↦ full-not first table room holds
    ]

pub none-share : {N S : Type 0} (settles first : Bool) (h : List Entry) (table : Places N S) (now : ℕ) → Goes settles first h table now None
    → settles ≡ true → length (in_use h) < most_whole table.limit
none-share settles first h table now g holds = crowded-not settles h table.limit (none-crowded settles (is_full first table) h table now g) holds

pub some-share : {N S : Type 0} (settles first : Bool) (h : List Entry) (table : Places N S) (now id : ℕ) → Goes settles first h table now (Some id)
    → length (in_use h) ≤ most_whole table.limit → settles ≡ true → length (without id (in_use h)) < most_whole table.limit
some-share settles first h table now id g most holds =
    elim (cases_Bool (is_crowded settles h table.limit)) [
      | inl crowded ↦
          let oldest : Some id ≡ slice_get (in_use h) 0 = subst (λ (b : Bool). GoesBy b (is_full first table) (slice_get (in_use h) 0) table now (Some id)) crowded g in
          omega (arith, most, first-fewer (in_use h) id oldest)
      | inr free ↦
          let less : length (in_use h) < most_whole table.limit = crowded-not settles h table.limit free holds in
          omega (arith, less, without-most id (in_use h))
    ]

-- ---- a held context stays where a later token settles

whole-not-open : (s : Standing) → IsOpen s → is_whole s ≡ true → ⊥
whole-not-open Unknown o w = o
whole-not-open (Open at) o w = false≢true w
whole-not-open (Whole mech names ends) o w = o
whole-not-open Over o w = o

by-stays : {N S : Type 0} (naming : Naming S) (wide : ℕ) (crowded first : Bool) (h : List Entry) (table : Places N S) (cache : Cached) (now id held : ℕ) → Replays naming wide h table cache
    → GoesBy crowded (is_full first table) (slice_get (in_use h) 0) table now (Some id) → first ≡ false → IsHeld (slot_at table held) → id ≡ held → ⊥
by-stays naming wide true first h table cache now id held r g fails is same =
    let u : Uses h = uses wide h r.legal in
    let there : is_among id (in_use h) ≡ true = first-among (in_use h) id g in
    let whole : is_whole (standing id h) ≡ true = sym (u.members id) ∙ there in
    whole-not-open (standing held h) (open-held naming wide (standing held h) (numbers held h) (slot_at table held) (r.slots held) is) (ap (λ (i : ℕ). is_whole (standing i h)) (sym same) ∙ whole)
by-stays {N = N} {S = S} naming wide false first h table cache now id held r g fails is same =
    let free : is_full first table ≡ false = ap (λ (b : Bool). b && nat_le table.limit (live_of table)) fails in
    let none : Some id ≡ None = subst (λ (b : Bool). GoesBy {N = N} {S = S} false b (slice_get (in_use h) 0) table now (Some id)) free g in absurd cc

pub held-stays : {N S : Type 0} (naming : Naming S) (wide : ℕ) (settles first : Bool) (h : List Entry) (table : Places N S) (cache : Cached) (now id held : ℕ) → Replays naming wide h table cache
    → Goes settles first h table now (Some id) → first ≡ false → IsHeld (slot_at table held) → id ≡ held → ⊥
held-stays naming wide settles first h table cache now id held r g fails is same =
    by-stays naming wide (is_crowded settles h table.limit) first h table cache now id held r g fails is same

-- ---- what a held context shows

held-some : {N S : Type 0} (state : SlotState N S) (ends : ℕ) → IsHeldState state
    → ◌≡◌ {A = Option (Context N S)} (Some (record { state = state; ends = ends })) (Some (record { state = Held; ends = ends }))
held-some (Negotiating state) ends held = absurd held
held-some Held ends held = refl
held-some (Complete value) ends held = absurd held

pub held-context : {N S : Type 0} (slot : Option (Slot N S)) → IsHeld slot → ◌≡◌ {A = Option (Context N S)} (context_of slot) (Some (record { state = Held; ends = ends_at slot }))
held-context None held = absurd held
held-context {N = N} {S = S} (Some slot) held = held-some slot.state slot.ends held

pub held-window : {N S : Type 0} (slot : Option (Slot N S)) → IsHeld slot → SameWindow slot slot
held-window None held = absurd held
held-window (Some slot) held = refl

-- ---- whether one is next, as it is read

pub waits-next : {N S : Type 0} (table : Places N S) (now id : ℕ) → 1 < table.limit → IsWaiting table (Some id) → IsNext table now None → ⊥
waits-next table now id many waits none = false≢true (sym (none.1 many id) ∙ waits.0)

pub past-next : {N S : Type 0} (table : Places N S) (now id : ℕ) → IsPast table now (Some id) → IsNext table now None → ⊥
past-next table now id past none = past-clash table now id past.0 (none.0 id)
