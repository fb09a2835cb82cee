-- A command of places and options takes the words that are in it, and finds what they say.
use Rattle.std.proofs.Common.{◌≡◌, ◌∙◌, ◌&&◌, ◌+◌, ◌≤◌, suc, ℕ, Bool, true, false, List, [], ◌∷◌, ◌++◌, length, map, drop, Some, None, refl, sym, ap, subst, true≢false, fold, arith, codes}
use Rattle.std.specs.Str.{bytes_eq}
use Rattle.std.specs.List.{list_all}
use Rattle.std.specs.Prelude.{if◌then◌else◌}
use Rattle.std.proofs.lemmas.Slice.Eq.{bytes_eq-Decides}
use Rattle.clap.specs.Walk.{Held, Row, Rule, Walk, Names, walked, walk, walk_from, nothing_held, with_default, finished, settled, first_of, has_row, rows_after}
use Rattle.clap.specs.Simple.{App, Shape, built, is_simple, matches_of, argument_words, names_of}
use Rattle.clap.specs.Takes.{built_takes, turn_passes, level_passes, walk_passes, default_passes, is_valid, settle_passes}
use Rattle.clap.proofs.TakesLemmas.{leaf_takes}
use Rattle.cli_base.specs.Words.{is_dashed, is_one_of, are_words, plain_of, plain_from}
use Rattle.cli_words.specs.Line.{IsLine, IsRead}
use Rattle.cli_words.specs.Commands.{IsTaken}
use Rattle.cli_words.proofs.Pairs.{Word, Pair, Each, places, pairs_from, lookup, is_fresh, value-is, plain-is, are-apart, departs, plain-pairs, plain-plain, known-behind, places-plain, places-distinct}
use Rattle.cli_words.proofs.Walking.{row, held, stage, HasArgument, HasOption, HasPlace, HasPlaces, Walks, walks-on, settles, settling, plain-long, plain-short, plain-dashes, and-true}

-- the places behind the address
abbrev pub more_places : List Word
more_places = drop 1 places

-- the command has the options, the address, and so many places behind it
pub record Serves (a : App) (names : List Word) (n : ℕ) : Type 0 where
  pub simple : is_simple a ≡ true
  pub alone : a.top.no_binary_name ≡ true
  pub subs : (built a).subs ≡ []
  pub labels : names_of (built a) ≡ []
  pub options : Each (HasOption (built a).top.rules) names
  pub address : HasPlace (built a).top.rules (codes "address") 1
  pub behind : HasPlaces (built a).top.rules 2 n more_places
  pub defaults : Each (λ (r : Rule). r.defaults ≡ []) (built a).top.rules
  pub passing : list_all default_passes (built a).top.rules ≡ true
  pub valid : (rows : List Row) → is_valid (built a).top rows false ≡ true

pub option-of : (c : List Rule) (names : List Word) → Each (HasOption c) names → (word : Word) → is_one_of word names ≡ true → HasOption c word
option-of c [] each word e = absurd (true≢false (sym e))
option-of c (n ∷ names) each word e = go (λ f. option-of c names each.1 word f) (bytes_eq n word) refl
  where
    go : (is_one_of word names ≡ true → HasOption c word) → (b : Bool) → bytes_eq n word ≡ b → HasOption c word
    go more true t = subst (λ (w : Word). HasOption c w) ((bytes_eq-Decides n word).0 t) each.0
    go more false t = more (rw t at e)

-- ---- rows

if-same : {A : Type 0} (b : Bool) (x : A) → (if b then x else x) ≡ x
if-same true x = refl
if-same false x = refl

undefaulted : (c : List Rule) → Each (λ (r : Rule). r.defaults ≡ []) c → (rows : List Row) → fold with_default rows c ≡ rows
undefaulted [] each rows = refl
undefaulted (r ∷ c) each rows = ap (λ (rs : List Row). fold with_default rs c) (rw each.0 (if-same (has_row r.id rows) rows)) ∙ undefaulted c each.1 rows

finds : (id : Word) (pairs : List Pair) → first_of id (map row pairs) ≡ lookup id pairs
finds id [] = refl
finds id (p ∷ pairs) = go (finds id pairs) (bytes_eq p.0 id) refl
  where
    go : first_of id (map row pairs) ≡ lookup id pairs → (b : Bool) → bytes_eq p.0 id ≡ b → first_of id (map row (p ∷ pairs)) ≡ lookup id (p ∷ pairs)
    go more true t = rw t refl
    go more false t = rw t more

-- rows that are those of the words' pairs are what the words say
read-by : (names words : List Word) → are_words names words ≡ true → length (plain_of words) ≤ 6 → (rows : List Row) → rows ≡ map row (pairs_from places words None) → IsRead rows words
read-by names words known few rows e = record {
  values = λ name d. ap (λ (rs : List Row). first_of name rs) e ∙ (finds name (pairs_from places words None) ∙ value-is names words places None name d places-plain known tt);
  address = ap (λ (rs : List Row). first_of (codes "address") rs) e ∙ (finds (codes "address") (pairs_from places words None) ∙ plain-is names words places None 0 (codes "address") places-plain places-distinct known tt refl few);
  command = ap (λ (rs : List Row). first_of (codes "command") rs) e ∙ (finds (codes "command") (pairs_from places words None) ∙ plain-is names words places None 1 (codes "command") places-plain places-distinct known tt refl few);
  argument = ap (λ (rs : List Row). first_of (codes "argument") rs) e ∙ (finds (codes "argument") (pairs_from places words None) ∙ plain-is names words places None 2 (codes "argument") places-plain places-distinct known tt refl few);
  second = ap (λ (rs : List Row). first_of (codes "second") rs) e ∙ (finds (codes "second") (pairs_from places words None) ∙ plain-is names words places None 3 (codes "second") places-plain places-distinct known tt refl few);
  third = ap (λ (rs : List Row). first_of (codes "third") rs) e ∙ (finds (codes "third") (pairs_from places words None) ∙ plain-is names words places None 4 (codes "third") places-plain places-distinct known tt refl few);
  fourth = ap (λ (rs : List Row). first_of (codes "fourth") rs) e ∙ (finds (codes "fourth") (pairs_from places words None) ∙ plain-is names words places None 5 (codes "fourth") places-plain places-distinct known tt refl few);
  few = few;
}

-- ---- the address

begins : (s : Shape) → HasPlace s.rules (codes "address") 1 → (word : Word) → is_dashed word ≡ false → walked s.rules [] (walk_from nothing_held) word ≡ stage [] (codes "address") word 2 None
unfolding walked
begins s p word e = rw (plain-dashes word e, plain-long word e, plain-short word e, p.by_index) refl

begins-passes : (s : Shape) → HasPlace s.rules (codes "address") 1 → (word : Word) → is_dashed word ≡ false → turn_passes s [] (walk_from nothing_held) word ≡ true
begins-passes s p word e = rw (plain-dashes word e, plain-long word e, plain-short word e, p.by_index) refl

-- ---- all words

-- the walk comes to its end
ends : (s : Shape) (i word : Word) (words : List Word) (all : List Pair) → walked s.rules [] (walk_from nothing_held) word ≡ stage [] i word 2 None → (w : Walks s (stage [] i word 2 None) words all)
    → walk s.rules [] nothing_held (word ∷ words) ≡ stage w.before w.id w.value w.position None
ends s i word words all b w = ap (λ (x : Walk). fold (walked s.rules []) x words) b ∙ w.ends

rows-at : (c : List Rule) → Each (λ (r : Rule). r.defaults ≡ []) c → (all before : List Pair) (id value : Word) → HasArgument c id → is_fresh id before ≡ true → all ≡ before ++ (id, value) ∷ []
    → finished c (held before id value) ≡ map row all
rows-at c none all before id value h e is =
    undefaulted c none (settled c (held before id value)).rows ∙ ap (λ (m : Held). m.rows) (settles c before id value h e) ∙ ap (map row) (sym is)

level : (s : Shape) (i word : Word) (words : List Word) (all : List Pair) → walked s.rules [] (walk_from nothing_held) word ≡ stage [] i word 2 None → turn_passes s [] (walk_from nothing_held) word ≡ true
    → list_all default_passes s.rules ≡ true → ((rows : List Row) → is_valid s rows false ≡ true) → (w : Walks s (stage [] i word 2 None) words all) → level_passes s [] nothing_held (word ∷ words) false ≡ true
unfolding walk_passes
level s i word words all b t d v w =
    let e = ends s i word words all b w in
    let end : Held = (walk s.rules [] nothing_held (word ∷ words)).held in
    let walks : walk_passes s [] (walk_from nothing_held) (word ∷ words) ≡ true = and-true (turn_passes s [] (walk_from nothing_held) word) (walk_passes s [] (walked s.rules [] (walk_from nothing_held) word) words) t
    (subst (λ (x : Walk). walk_passes s [] x words ≡ true) (sym b) w.passes) in
    let last : settle_passes s.rules s.args_override_self end ≡ true =
    subst (λ (x : Walk). settle_passes s.rules s.args_override_self x.held ≡ true) (sym e) (settling s.rules s.args_override_self w.before w.id w.value w.argument w.fresh) in
    and-true (walk_passes s [] (walk_from nothing_held) (word ∷ words)) (settle_passes s.rules s.args_override_self end && (list_all default_passes s.rules && is_valid s (finished s.rules end) false)) walks
    (and-true (settle_passes s.rules s.args_override_self end) (list_all default_passes s.rules && is_valid s (finished s.rules end) false) last
    (and-true (list_all default_passes s.rules) (is_valid s (finished s.rules end) false) d (v (finished s.rules end))))

rows-found : (c : List Rule) (labels : Names) (given words : List Word) (end : Walk) (rows : List Row) → labels ≡ [] → given ≡ words → walk c [] nothing_held words ≡ end
    → finished c end.held ≡ rows → rows_after c labels given ≡ rows
rows-found c labels given words end rows l g e r =
    ap (λ (ns : Names). rows_after c ns given) l ∙ (ap (λ (ws : List Word). rows_after c [] ws) g ∙ (ap (λ (x : Walk). finished c x.held) e ∙ r))

-- a line of words, of which the first is the address
pub taken-by : (a : App) (names : List Word) (n : ℕ) → Serves a names n → n ≤ 5 → (word : Word) (words : List Word) → is_dashed word ≡ false
    → length (plain_of (word ∷ words)) ≤ n + 1 → are_words names (word ∷ words) ≡ true → IsTaken a (word ∷ words)
taken-by a names n m small word words plain few known =
    let s : Shape = (built a).top in
    let all : List Pair = (codes "address", word) ∷ pairs_from more_places words None in
    let all_is : pairs_from places (word ∷ words) None ≡ all = plain-pairs places word words plain in
    let few-here : suc (length (plain_from false words)) ≤ n + 1 = subst (λ (ws : List Word). length ws ≤ n + 1) (plain-plain word words plain) few in
    let few-behind : length (plain_from false words) ≤ n = omega (arith, few-here) in
    let few-all : length (plain_of (word ∷ words)) ≤ 6 = omega (arith, few, small) in
    let b = begins s m.address word plain in
    let w : Walks s (stage [] (codes "address") word 2 None) words all = walks-on s names (option-of s.rules names m.options) words None more_places n 2 [] (codes "address") word (record {
      places = m.behind;
      argument = record { long = None; index = Some 1; by_id = m.address.by_id };
      fresh = refl;
      has_due = tt;
      awaits = tt;
      known = known-behind names word words known;
      few = few-behind;
      apart = are-apart names words more_places ((codes "address", word) ∷ []) None places-plain.1 places-distinct.1 (refl, (refl, (refl, (refl, (refl, tt))))) (known-behind names word words known) tt tt
          (λ name d there. rw (departs (codes "address") name refl d) refl);
    }) in
    let alone : argument_words a (word ∷ words) ≡ word ∷ words = rw m.alone refl in
    let passes : built_takes (built a) nothing_held (word ∷ words) ≡ true =
    leaf_takes (built a) nothing_held (word ∷ words) m.subs (level s (codes "address") word words all b (begins-passes s m.address word plain) m.passing m.valid w) in
    let rows : matches_of a (word ∷ words) ≡ map row all =
    rows-found s.rules (names_of (built a)) (argument_words a (word ∷ words)) (word ∷ words) (stage w.before w.id w.value w.position None) (map row all) m.labels alone
    (ends s (codes "address") word words all b w) (rows-at s.rules m.defaults all w.before w.id w.value w.argument w.fresh w.all_is) in
    record {
      taken = and-true (is_simple a) (built_takes (built a) nothing_held (argument_words a (word ∷ words))) m.simple
          (subst (λ (ws : List Word). built_takes (built a) nothing_held ws ≡ true) (sym alone) passes);
      found = read-by names (word ∷ words) known few-all (matches_of a (word ∷ words)) (rows ∙ ap (map row) (sym all_is));
    }

pub taken : (a : App) (names : List Word) (n : ℕ) → Serves a names n → n ≤ 5 → (words : List Word) → IsLine names (n + 1) words → IsTaken a words
taken a names n m small [] line = absurd (true≢false (sym line.first))
taken a names n m small (word ∷ words) line = by-dash (is_dashed word) refl
  where
    by-dash : (b : Bool) → is_dashed word ≡ b → IsTaken a (word ∷ words)
    by-dash true t = absurd (true≢false (sym (rw t at line.first)))
    by-dash false t = taken-by a names n m small word words t line.few line.known
