-- What `clap` makes of accepted words, by a command of places and of options with one value each.
use Rattle.std.proofs.Common.{◌≡◌, ◌∙◌, ◌&&◌, not, ℕ, ◌+◌, ◌≤◌, zero, suc, min, Bool, true, false, List, [], ◌∷◌, ◌++◌, length, map, Option, Some, None, is_some, refl, sym, ap, subst, true≢false, fold, arith, append_assoc}
use Rattle.std.specs.Str.{bytes_eq}
use Rattle.std.proofs.lemmas.List.{append-nil, map-append}
use Rattle.clap.specs.Lexer.{usize_max, long_of, short_of}
use Rattle.clap.specs.Walk.{Held, Row, Rule, Walk, arg_by_id, arg_by_index, arg_by_long, at_row, has_row, settled, walked, idle, option, without}
use Rattle.clap.specs.Walk as walks
use Rattle.clap.specs.Simple.{Shape, new_rule}
use Rattle.clap.specs.Takes.{settle_passes, turn_passes, walk_passes}
use Rattle.clap.specs.declared.builder.action.ArgAction.TheVariants.{Set}
use Rattle.clap.specs.declared.builder.value_parser.Reading.TheVariants.{AsWritten}
use Rattle.clap.specs.declared.builder.value_parser.ValueParser.TheVariants as vp
use Rattle.clap.specs.declared.parser.matches.ValueSource.TheVariants.{CommandLine}
use Rattle.clap.proofs.WalkLemmas.{both}
use Rattle.clap.proofs.SimpleLemmas.{is_false}
use Rattle.cli_base.specs.Words.{is_dashed, is_one_of, are_words, plain_from}
use Rattle.cli_words.proofs.Pairs.{Word, Pair, Apart, Awaits, OptionHere, pairs_from, placed, is_fresh, same-word, option-here, known-behind, dashed-pairs, plain-pairs, dashed-plain, plain-plain, value-plain}

-- an argument with one value, as building fills it in
abbrev pub set_rule : Word → Option Word → Option ℕ → Rule
set_rule id long index = record (new_rule id) { long = long; index = index; action = Some Set; range = Some (record { start_inclusive = 1; end_inclusive = 1 }); parser = Some vp.String }

abbrev pub row : Pair → Row
row p = record { id = p.0; values = p.1 ∷ []; count = None; source = Some CommandLine; reading = AsWritten }

-- the pairs before, and the last one, which is pending
abbrev pub held : List Pair → Word → Word → Held
held ps i v = record { rows = map row ps; pending = Some (i, v ∷ []); skip = 0 }

-- behind the pairs and the last one: the walk stands at a position, and an option may be due
abbrev pub stage : List Pair → Word → Word → ℕ → Option Word → Walk
stage ps i v k None = record { held = held ps i v; waiting = idle; position = k; is_trailing = false; stopped = None }
stage ps i v k (Some name) = record { held = record { rows = map row (ps ++ (i, v) ∷ []); pending = Some (name, []); skip = 0 }; waiting = option name; position = k; is_trailing = false; stopped = None }

-- the command has this argument
pub record HasArgument (c : List Rule) (id : Word) : Type 0 where
  pub long : Option Word
  pub index : Option ℕ
  pub by_id : arg_by_id c id ≡ Some (set_rule id long index)

-- an option by its word, which is its id
pub record HasOption (c : List Rule) (word : Word) : Type 0 where
  pub name : Word
  pub some : bytes_eq word (45 ∷ 45 ∷ []) ≡ false
  pub spelled : long_of word ≡ Some (name, None)
  pub by_long : arg_by_long c name ≡ Some (set_rule word (Some name) None)
  pub by_id : arg_by_id c word ≡ Some (set_rule word (Some name) None)

-- a place at a position
pub record HasPlace (c : List Rule) (id : Word) (k : ℕ) : Type 0 where
  pub by_index : arg_by_index c k ≡ Some (set_rule id None (Some k))
  pub by_id : arg_by_id c id ≡ Some (set_rule id None (Some k))
  pub next : min (k + 1) usize_max ≡ k + 1

-- the first places that are left, from a position on
abbrev pub HasPlaces : List Rule → ℕ → ℕ → List Word → Type 0
HasPlaces c k zero left = Unit {0}
HasPlaces c k (suc n) [] = ⊥
HasPlaces c k (suc n) (id ∷ left) = HasPlace c id k × HasPlaces c (k + 1) n left

abbrev pub HasDue : List Rule → Option Word → Type 0
HasDue c None = Unit {0}
HasDue c (Some name) = HasOption c name

-- ---- rows

pub at-fresh : (change : Row → List Row) (missing : List Row) (i : Word) (ps : List Pair) → is_fresh i ps ≡ true → at_row i change missing (map row ps) ≡ map row ps ++ missing
at-fresh change missing i [] e = refl
at-fresh change missing i (p ∷ ps) e = go (at-fresh change missing i ps (both (not (bytes_eq p.0 i)) (is_fresh i ps) e).1) (bytes_eq p.0 i) refl
  where
    go : at_row i change missing (map row ps) ≡ map row ps ++ missing → (b : Bool) → bytes_eq p.0 i ≡ b → at_row i change missing (map row (p ∷ ps)) ≡ map row (p ∷ ps) ++ missing
    go more true is = absurd (true≢false (sym (both (not (bytes_eq p.0 i)) (is_fresh i ps) e).0 ∙ ap not is))
    go more false is = rw is (ap (λ (rs : List Row). row p ∷ rs) more)

pub no-row : (i : Word) (ps : List Pair) → is_fresh i ps ≡ true → has_row i (map row ps) ≡ false
no-row i [] e = refl
no-row i (p ∷ ps) e = go (no-row i ps (both (not (bytes_eq p.0 i)) (is_fresh i ps) e).1) (bytes_eq p.0 i) refl
  where
    go : has_row i (map row ps) ≡ false → (b : Bool) → bytes_eq p.0 i ≡ b → has_row i (map row (p ∷ ps)) ≡ false
    go more true is = absurd (true≢false (sym (both (not (bytes_eq p.0 i)) (is_fresh i ps) e).0 ∙ ap not is))
    go more false is = rw is more

-- the pending value becomes a row
pub settles : (c : List Rule) (ps : List Pair) (i v : Word) → HasArgument c i → is_fresh i ps ≡ true
    → settled c (held ps i v) ≡ record { rows = map row (ps ++ (i, v) ∷ []); pending = None; skip = 0 }
settles c ps i v h e = ap (λ (rs : List Row). record { rows = rs; pending = None; skip = 0 }) rows
  where
    rest : without i (map row ps) ≡ map row ps
    rest = at-fresh (λ _. []) [] i ps e ∙ append-nil (map row ps)

    rows : (settled c (held ps i v)).rows ≡ map row (ps ++ (i, v) ∷ [])
    rows = rw (h.by_id, rest) (at-fresh (walks.more_values CommandLine (v ∷ [])) (row (i, v) ∷ []) i ps e ∙ sym (map-append row ps ((i, v) ∷ [])))

pub settling : (c : List Rule) (again : Bool) (ps : List Pair) (i v : Word) → HasArgument c i → is_fresh i ps ≡ true → settle_passes c again (held ps i v) ≡ true
settling c again ps i v h e = rw (h.by_id, no-row i ps e) refl

-- ---- a word that doesn't begin with `-`

pub plain-long : (word : Word) → is_dashed word ≡ false → long_of word ≡ None
plain-long [] e = refl
plain-long (x ∷ xs) e = rw e refl

pub plain-short : (word : Word) → is_dashed word ≡ false → short_of word ≡ None
plain-short [] e = refl
plain-short (x ∷ xs) e = rw e refl

pub plain-dashes : (word : Word) → is_dashed word ≡ false → bytes_eq word (45 ∷ 45 ∷ []) ≡ false
plain-dashes [] e = refl
plain-dashes (x ∷ xs) e = rw e refl

cut : (b : Bool) → (b && false) ≡ false
cut true = refl
cut false = refl

pub and-true : (a b : Bool) → a ≡ true → b ≡ true → (a && b) ≡ true
and-true a b p q = subst (λ (x : Bool). (x && b) ≡ true) (sym p) q

-- ---- one word

option-walked : (c : List Rule) (ps : List Pair) (i v : Word) (k : ℕ) (word : Word) → HasArgument c i → is_fresh i ps ≡ true → HasOption c word
    → walked c [] (stage ps i v k None) word ≡ stage ps i v k (Some word)
unfolding walked
option-walked c ps i v k word h e o = rw (o.some, o.spelled, o.by_long) (ap (λ (m : Held). record { held = record m { pending = Some (word, []) }; waiting = option word; position = k; is_trailing = false; stopped = None }) (settles c ps i v h e))

option-passes : (s : Shape) (ps : List Pair) (i v : Word) (k : ℕ) (word : Word) → HasArgument s.rules i → is_fresh i ps ≡ true → HasOption s.rules word
    → turn_passes s [] (stage ps i v k None) word ≡ true
option-passes s ps i v k word h e o = rw (o.some, o.spelled, o.by_long, settling s.rules s.args_override_self ps i v h e) refl

value-walked : (c : List Rule) (ps : List Pair) (i v : Word) (k : ℕ) (name value : Word) → HasOption c name → is_dashed value ≡ false
    → walked c [] (stage ps i v k (Some name)) value ≡ stage (ps ++ (i, v) ∷ []) name value k None
unfolding walked
value-walked c ps i v k name value o e = rw (plain-dashes value e, plain-long value e, plain-short value e, o.by_id, same-word name) refl

value-passes : (s : Shape) (ps : List Pair) (i v : Word) (k : ℕ) (name value : Word) → HasOption s.rules name → is_dashed value ≡ false
    → turn_passes s [] (stage ps i v k (Some name)) value ≡ true
value-passes s ps i v k name value o e = rw (plain-dashes value e, plain-long value e, plain-short value e) refl

plain-walked : (c : List Rule) (ps : List Pair) (i v : Word) (k : ℕ) (id word : Word) → HasArgument c i → is_fresh i ps ≡ true → HasPlace c id k → is_dashed word ≡ false
    → walked c [] (stage ps i v k None) word ≡ stage (ps ++ (i, v) ∷ []) id word (k + 1) None
unfolding walked
plain-walked c ps i v k id word h e p d = rw (plain-dashes word d, plain-long word d, plain-short word d, p.by_index, cut (bytes_eq i id), p.next)
    (ap (λ (m : Held). record { held = record m { pending = Some (id, word ∷ []) }; waiting = idle; position = k + 1; is_trailing = false; stopped = None }) (settles c ps i v h e))

plain-passes : (s : Shape) (ps : List Pair) (i v : Word) (k : ℕ) (id word : Word) → HasArgument s.rules i → is_fresh i ps ≡ true → HasPlace s.rules id k → is_dashed word ≡ false
    → turn_passes s [] (stage ps i v k None) word ≡ true
plain-passes s ps i v k id word h e p d = rw (plain-dashes word d, plain-long word d, plain-short word d, p.by_index, cut (bytes_eq i id), settling s.rules s.args_override_self ps i v h e) refl

-- ---- all words behind the address

pub record Walks (s : Shape) (start : Walk) (words : List Word) (all : List Pair) : Type 0 where
  pub before : List Pair
  pub id : Word
  pub value : Word
  pub position : ℕ
  pub passes : walk_passes s [] start words ≡ true
  pub ends : fold (walked s.rules []) start words ≡ stage before id value position None
  pub all_is : all ≡ before ++ (id, value) ∷ []
  pub fresh : is_fresh id before ≡ true
  pub argument : HasArgument s.rules id

step-walks : (s : Shape) (start next : Walk) (word : Word) (words : List Word) (all : List Pair) → turn_passes s [] start word ≡ true → walked s.rules [] start word ≡ next
    → Walks s next words all → Walks s start (word ∷ words) all
unfolding walk_passes
step-walks s start next word words all t b w = record {
  before = w.before;
  id = w.id;
  value = w.value;
  position = w.position;
  passes = and-true (turn_passes s [] start word) (walk_passes s [] (walked s.rules [] start word) words) t (subst (λ (x : Walk). walk_passes s [] x words ≡ true) (sym b) w.passes);
  ends = subst (λ (x : Walk). fold (walked s.rules []) x words ≡ stage w.before w.id w.value w.position None) (sym b) w.ends;
  all_is = w.all_is;
  fresh = w.fresh;
  argument = w.argument;
}

-- what is known where the walk stands before some words
pub record Fits (s : Shape) (names words : List Word) (due : Option Word) (left : List Word) (n k : ℕ) (ps : List Pair) (i v : Word) : Type 0 where
  pub places : HasPlaces s.rules k n left
  pub argument : HasArgument s.rules i
  pub fresh : is_fresh i ps ≡ true
  pub has_due : HasDue s.rules due
  pub awaits : Awaits due words
  pub known : are_words names words ≡ true
  pub few : length (plain_from (is_some due) words) ≤ n
  pub apart : Apart (ps ++ (i, v) ∷ []) (pairs_from left words due)

abbrev pub Goes : Shape → List Word → List Word → Type 0
Goes s names words = (due : Option Word) (left : List Word) (n k : ℕ) (ps : List Pair) (i v : Word) → Fits s names words due left n k ps i v
    → Walks s (stage ps i v k due) words (ps ++ (i, v) ∷ pairs_from left words due)

walks-none : (s : Shape) (names : List Word) → Goes s names []
unfolding walk_passes
walks-none s names None left n k ps i v f = record { before = ps; id = i; value = v; position = k; passes = refl; ends = refl; all_is = refl; fresh = f.fresh; argument = f.argument }
walks-none s names (Some name) left n k ps i v f = absurd (true≢false (sym f.awaits.1))

walks-plain : (s : Shape) (names words : List Word) (word : Word) → Goes s names words → (n : ℕ) (left : List Word) (k : ℕ) (ps : List Pair) (i v : Word)
    → is_dashed word ≡ false → HasPlaces s.rules k n left → HasArgument s.rules i → is_fresh i ps ≡ true → are_words names words ≡ true
    → length (word ∷ plain_from false words) ≤ n → Apart (ps ++ (i, v) ∷ []) (placed left word (λ rest. pairs_from rest words None))
    → Walks s (stage ps i v k None) (word ∷ words) (ps ++ (i, v) ∷ placed left word (λ rest. pairs_from rest words None))
walks-plain s names words word more zero left k ps i v d places h e known few apart = absurd (omega (arith, few))
walks-plain s names words word more (suc n) [] k ps i v d places h e known few apart = absurd places
walks-plain s names words word more (suc n) (id ∷ left) k ps i v d places h e known few apart =
    let few-behind : length (plain_from false words) ≤ n = omega (arith, few) in
    subst (λ (all : List Pair). Walks s (stage ps i v k None) (word ∷ words) all) (append_assoc ps ((i, v) ∷ []) ((id, word) ∷ pairs_from left words None))
    (step-walks s (stage ps i v k None) (stage (ps ++ (i, v) ∷ []) id word (k + 1) None) word words _ (plain-passes s ps i v k id word h e places.0 d) (plain-walked s.rules ps i v k id word h e places.0 d)
    (more None left n (k + 1) (ps ++ (i, v) ∷ []) id word (record {
      places = places.1;
      argument = record { long = None; index = Some k; by_id = places.0.by_id };
      fresh = apart.0;
      has_due = tt;
      awaits = tt;
      known = known;
      few = few-behind;
      apart = apart.1;
    })))

walks-more : (s : Shape) (names : List Word) → ((word : Word) → is_one_of word names ≡ true → HasOption s.rules word) → (words : List Word) (word : Word)
    → Goes s names words → Goes s names (word ∷ words)
walks-more s names options words word more (Some name) left n k ps i v f =
    let plain : is_dashed word ≡ false = is_false (is_dashed word) f.awaits.1 in
    subst (λ (all : List Pair). Walks s (stage ps i v k (Some name)) (word ∷ words) all) (append_assoc ps ((i, v) ∷ []) ((name, word) ∷ pairs_from left words None))
    (step-walks s (stage ps i v k (Some name)) (stage (ps ++ (i, v) ∷ []) name word k None) word words _ (value-passes s ps i v k name word f.has_due plain) (value-walked s.rules ps i v k name word f.has_due plain)
    (more None left n k (ps ++ (i, v) ∷ []) name word (record {
      places = f.places;
      argument = record { long = Some f.has_due.name; index = None; by_id = f.has_due.by_id };
      fresh = f.apart.0;
      has_due = tt;
      awaits = tt;
      known = known-behind names word words f.known;
      few = subst (λ (ws : List Word). length ws ≤ n) (value-plain word words plain) f.few;
      apart = f.apart.1;
    })))
walks-more s names options words word more None left n k ps i v f = by-dash (is_dashed word) refl
  where
    by-dash : (b : Bool) → is_dashed word ≡ b → Walks s (stage ps i v k None) (word ∷ words) (ps ++ (i, v) ∷ pairs_from left (word ∷ words) None)
    by-dash true t =
        let o : OptionHere names word words = option-here names word words f.known t in
        let h : HasOption s.rules word = options word o.one in
        subst (λ (pairs : List Pair). Walks s (stage ps i v k None) (word ∷ words) (ps ++ (i, v) ∷ pairs)) (sym (dashed-pairs left word words t))
        (step-walks s (stage ps i v k None) (stage ps i v k (Some word)) word words _ (option-passes s ps i v k word f.argument f.fresh h) (option-walked s.rules ps i v k word f.argument f.fresh h)
        (more (Some word) left n k ps i v (record {
          places = f.places;
          argument = f.argument;
          fresh = f.fresh;
          has_due = h;
          awaits = o.awaits;
          known = o.known;
          few = subst (λ (ws : List Word). length ws ≤ n) (dashed-plain word words t) f.few;
          apart = subst (λ (pairs : List Pair). Apart (ps ++ (i, v) ∷ []) pairs) (dashed-pairs left word words t) f.apart;
        })))
    by-dash false t =
        subst (λ (pairs : List Pair). Walks s (stage ps i v k None) (word ∷ words) (ps ++ (i, v) ∷ pairs)) (sym (plain-pairs left word words t))
        (walks-plain s names words word more n left k ps i v t f.places f.argument f.fresh (known-behind names word words f.known)
        (subst (λ (ws : List Word). length ws ≤ n) (plain-plain word words t) f.few)
        (subst (λ (pairs : List Pair). Apart (ps ++ (i, v) ∷ []) pairs) (plain-pairs left word words t) f.apart))

-- the walk over all words
pub walks-on : (s : Shape) (names : List Word) → ((word : Word) → is_one_of word names ≡ true → HasOption s.rules word) → (words : List Word) → Goes s names words
walks-on s names options [] = walks-none s names
walks-on s names options (word ∷ words) = walks-more s names options words word (walks-on s names options words)
