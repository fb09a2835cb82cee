-- An AuthMessage has one cut into its three texts.
use Rattle.std.proofs.Common.{◌≡◌, ℕ, ◌-◌, Bool, true, false, cond, ◌||◌, ◌==◌, List, [], ◌∷◌, ◌++◌, length, take, Option, Some, None, Result, Ok, refl, sym, ap, ◌∙◌, arith, subst, append_assoc, length-append, codes}
use Rattle.std.proofs.lemmas.List.{append-nil}
use Rattle.std.proofs.lemmas.Grind.{common_steps}
use Rattle.scram_mech.specs.declared.refusal.Stuck.{Stuck}
use Rattle.scram_mech.specs.declared.run.Class.TheVariants.{Nonce}
use Rattle.scram_mech.specs.declared.name.Escape.{Escape}
use Rattle.scram_mech.specs.declared.name.Escape.TheVariants.{Outside, Begun, Comma, Equals}
use Rattle.scram_mech.specs.declared.name.Name.{Name}
use Rattle.scram_mech.specs.declared.digits.Digits.{Digits}
use Rattle.scram_mech.specs.declared.digits.Digits.TheVariants as digits
use Rattle.scram_mech.specs.declared.symbols.Spot.TheVariants as spots
use Rattle.scram_mech.specs.declared.symbols.Symbols.{Symbols}
use Rattle.scram_mech.specs.declared.further.Due.TheVariants as dues
use Rattle.scram_mech.specs.declared.further.Further.{Further}
use Rattle.scram_mech.specs.declared.state.State.{State}
use Rattle.scram_mech.specs.declared.state.State.TheVariants as states
use Rattle.scram_mech.specs.Signs.{is_free, sextet_of}
use Rattle.scram_mech.specs.State.{some, a_name, base64, rounds_number, further_parts, step, ends}
use Rattle.scram_mech.specs.Name.{name_step, unescaped}
use Rattle.scram_mech.specs.Digits.{number_of}
use Rattle.scram_mech.specs.Symbols.{symbols_step}
use Rattle.scram_mech.specs.Further.{go, further_step}
use Rattle.scram_mech.specs.Base64.{decoded}
use Rattle.scram_mech.specs.Formats.{pieces_of, piece, values_of}
use Rattle.scram_mech.specs.FirstText.{First, first_format, first_of}
use Rattle.scram_mech.specs.SecondText.{Second, second_format, second_of}
use Rattle.scram_mech.specs.ThirdText.{Third, third_format, third_of}
use Rattle.scram_mech.specs.Secrets.{auth_message}
use Rattle.scram_mech.specs.AuthParts.{third_part, second_part, auth_format, parts_in, auth_parts}
use Rattle.scram_mech.proofs.Walks.{walk, walk-map, map_some, walk-cons, Stops, ok_is}
use Rattle.scram_mech.proofs.Sextets.{eq_of}
use Rattle.scram_mech.proofs.RunWalks.{run_of, run-taken}
use Rattle.scram_mech.proofs.ValueFacts.{symbols_walk, run_walk, digits_walk}
use Rattle.scram_mech.proofs.Signs64.{decodes, encoded-signs}
use Rattle.scram_mech.proofs.Pieces.{Spelled, Takes, bind_ok, pieces_of-found, pieces_of-only}
use Rattle.scram_mech.proofs.ExchangeLaws.{given, given_is, values-read}
use Rattle.scram_mech.proofs.Written.{AtComma, length-encoded}
use Rattle.scram_mech.proofs.FurtherWalks.{unclosed, up_to, closes, behind}

-- ---- no value but further parts takes a comma

at_comma : (s : State) → step s 44 ≡ None → (rest : List ℕ) → AtComma rest → Stops step s rest
at_comma s e [] at = tt
at_comma s e (x ∷ xs) at = subst (λ (y : ℕ). step s y ≡ None) (sym at) e

or_true : (b : Bool) → (b || true) ≡ true
or_true true = refl
or_true false = refl

nonce_comma : (need left : ℕ) → step (states.Run (run_of Nonce need left)) 44 ≡ None
nonce_comma need left = rw (or_true (left == 0)) refl

pub nonce-again : (most : ℕ) (value rest other : List ℕ) → Takes (some Nonce most) value rest → AtComma other → Takes (some Nonce most) value other
nonce-again most value rest other t at =
    let w = run_walk (run_of Nonce 1 most) value t.last t.passed in
    let r = run-taken Nonce 1 most value w.0 w.1 in
    let last : states.Run (run_of Nonce (1 - length value) (most - length value)) ≡ t.last = ap states.Run r.next ∙ w.2 in
    record { last = t.last; passed = t.passed; ended = t.ended; stops = subst (λ (s : State). Stops step s other) last (at_comma (states.Run (run_of Nonce (1 - length value) (most - length value))) (nonce_comma (1 - length value) (most - length value)) other at) }

name_comma : (e : Escape) (need left : ℕ) → step (states.Name (record { escape = e; need = need; left = left })) 44 ≡ None
name_comma Outside need left = refl
name_comma Begun need left = refl
name_comma Comma need left = refl
name_comma Equals need left = refl

pub name_walk : (s : Name) (octets : List ℕ) (last : State) → walk step (states.Name s) octets ≡ Some last → (e : Name) × (walk name_step s octets ≡ Some e) × (states.Name e ≡ last)
name_walk s octets last w = map_some states.Name (walk name_step s octets) last (sym (walk-map states.Name name_step step (λ t x. refl) s octets) ∙ w)

pub name-again : (value rest other : List ℕ) → Takes a_name value rest → AtComma other → Takes a_name value other
name-again value rest other t at =
    let w = name_walk (record { escape = Outside; need = 1; left = 255 }) value t.last t.passed in
    record { last = t.last; passed = t.passed; ended = t.ended; stops = subst (λ (s : State). Stops step s other) w.2 (at_comma (states.Name w.0) (name_comma w.0.escape w.0.need w.0.left) other at) }

symbols_comma : (s : Symbols) → step (states.Symbols s) 44 ≡ None
unfolding symbols_step sextet_of
symbols_comma s = refl

pub base64-again : (least most : ℕ) (value rest other : List ℕ) → Takes (base64 least most) value rest → AtComma other → Takes (base64 least most) value other
base64-again least most value rest other t at =
    let w = symbols_walk (record { spot = spots.First; need = least; left = most }) value t.last t.passed in
    record { last = t.last; passed = t.passed; ended = t.ended; stops = subst (λ (s : State). Stops step s other) w.2 (at_comma (states.Symbols w.0) (symbols_comma w.0) other at) }

digits_comma : (d : Digits) → step (states.Digits d) 44 ≡ None
digits_comma d = refl

pub rounds-again : (value rest other : List ℕ) → Takes rounds_number value rest → AtComma other → Takes rounds_number value other
rounds-again value rest other t at =
    let w = digits_walk digits.First value t.last t.passed in
    record { last = t.last; passed = t.passed; ended = t.ended; stops = subst (λ (s : State). Stops step s other) w.2 (at_comma (states.Digits w.0) (digits_comma w.0) other at) }

-- ---- further parts

pub further_walk : (s : Further) (octets : List ℕ) (last : State) → walk step (states.Further s) octets ≡ Some last → (e : Further) × (walk further_step s octets ≡ Some e) × (states.Further e ≡ last)
further_walk s octets last w = map_some states.Further (walk further_step s octets) last (sym (walk-map states.Further further_step step (λ t x. refl) s octets) ∙ w)

abbrev none_of : Option Further
none_of = None

begins_by : (last : Option ℕ) (x : ℕ) (m : Further) (b : Bool) → (x == 44) ≡ b → cond b (go (record { due = dues.Part; last = last }) dues.Letter) none_of ≡ Some m → x ≡ 44
begins_by last x m true comma e = eq_of x 44 comma
begins_by last x m false comma e = absurd cc

-- further parts begin with a comma, if there are any
pub further-comma : (last : Option ℕ) (value rest other : List ℕ) → Takes (further_parts last) value rest → AtComma other → AtComma (value ++ other)
further-comma last [] rest other t at = at
further-comma last (x ∷ xs) rest other t at =
    let w = further_walk (record { due = dues.Part; last = last }) (x ∷ xs) t.last t.passed in
    let m = walk-cons further_step (record { due = dues.Part; last = last }) x xs w.0 w.1 in
    begins_by last x m.0 (x == 44) refl m.1

-- parts up to the end, and the letter that no further part has
pub closed : (letter : ℕ) (value rest other : List ℕ) → is_free letter ≡ false → Takes (further_parts None) value rest → Takes (further_parts (Some letter)) (value ++ 44 ∷ letter ∷ []) (61 ∷ other)
closed letter value rest other named t =
    let w = further_walk (unclosed dues.Part) value t.last t.passed in
    let c = closes letter value w.0 named w.1 (subst (λ (s : State). ends s ≡ true) (sym w.2) t.ended) in
    record {
      last = states.Further (up_to letter dues.Nothing);
      passed = walk-map states.Further further_step step (λ s x. refl) (up_to letter dues.Part) (value ++ 44 ∷ letter ∷ []) ∙ rw c refl;
      ended = refl;
      stops = refl;
    }

-- parts up to a letter, without it
pub record Cut (letter : ℕ) (value : List ℕ) : Type 0 where
  pub front : List ℕ
  pub same : value ≡ front ++ 44 ∷ letter ∷ []
  pub takes : Takes (further_parts None) front []

pub cut : (letter : ℕ) (value rest : List ℕ) → Takes (further_parts (Some letter)) value rest → Cut letter value
cut letter value rest t =
    let w = further_walk (up_to letter dues.Part) value t.last t.passed in
    let p = behind letter dues.Part value w.0 w.1 (subst (λ (s : State). ends s ≡ true) (sym w.2) t.ended) in
    record {
      front = p.front;
      same = p.same;
      takes = record {
        last = states.Further p.end;
        passed = walk-map states.Further further_step step (λ s x. refl) (unclosed dues.Part) p.front ∙ rw p.passed refl;
        ended = p.ended;
        stops = tt;
      };
    }

-- ---- the texts by their values

pub record FirstSpelled (text : List ℕ) (first : First) : Type 0 where
  pub name : List ℕ
  pub nonce : List ℕ
  pub further : List ℕ
  pub same : text ≡ codes "n=" ++ (name ++ (codes ",r=" ++ (nonce ++ further)))
  pub takes_name : (other : List ℕ) → AtComma other → Takes a_name name other
  pub takes_nonce : (other : List ℕ) → AtComma other → Takes (some Nonce 232) nonce other
  pub takes_further : Takes (further_parts None) further []
  pub shows : first ≡ record { name = unescaped Outside name; nonce = nonce }

ends_here : (value back octets : List ℕ) → octets ≡ value ++ back → back ≡ [] → octets ≡ value
ends_here value back octets e f = e ∙ (ap (λ (b : List ℕ). value ++ b) f ∙ append-nil value)

first_values : (values : List (List ℕ)) (text rest : List ℕ) (first : First) → Spelled first_format values text rest → first ≡ record { name = unescaped Outside (piece values 0); nonce = piece values 1 } → FirstSpelled text first
unfolding first_format
first_values [] text rest first s e = absurd s.2
first_values (a ∷ []) text rest first s e = absurd s.2.3.2
first_values (a ∷ b ∷ []) text rest first s e = absurd s.2.3.2.3
first_values (a ∷ b ∷ c ∷ others) text rest first s e =
    let last : s.2.3.2.0 ≡ c = ends_here c s.2.3.2.3.0 s.2.3.2.0 s.2.3.2.3.1 s.2.3.2.3.3.0 in
    record {
      name = a;
      nonce = b;
      further = c;
      same = s.1 ∙ ap (λ (os : List ℕ). codes "n=" ++ os) (s.2.1 ∙ ap (λ (os : List ℕ). a ++ os) (s.2.3.1 ∙ ap (λ (os : List ℕ). codes ",r=" ++ os) (s.2.3.2.1 ∙ ap (λ (os : List ℕ). b ++ os) last)));
      takes_name = λ other at. name-again a s.2.0 other s.2.2 at;
      takes_nonce = λ other at. nonce-again 232 b s.2.3.2.0 other s.2.3.2.2 at;
      takes_further = subst (λ (os : List ℕ). Takes (further_parts None) c os) s.2.3.2.3.3.0 s.2.3.2.3.2;
      shows = e;
    }

pub first-spelled : (text : List ℕ) (first : First) → first_of text ≡ given first → FirstSpelled text first
unfolding first_of
first-spelled text first e =
    let b = bind_ok (values_of first_format text) _ first e in
    let s = pieces_of-found first_format b.0 text (values-read first_format text b.0 b.1) in
    first_values b.0 text s.0 first s.1 (sym (given_is _ first b.2))

pub record SecondSpelled (text : List ℕ) (second : Second) : Type 0 where
  pub nonce : List ℕ
  pub salt : List ℕ
  pub rounds : List ℕ
  pub further : List ℕ
  pub same : text ≡ codes "r=" ++ (nonce ++ (codes ",s=" ++ (salt ++ (codes ",i=" ++ (rounds ++ further)))))
  pub takes_nonce : (other : List ℕ) → AtComma other → Takes (some Nonce 256) nonce other
  pub takes_salt : (other : List ℕ) → AtComma other → Takes (base64 1 64) salt other
  pub takes_rounds : (other : List ℕ) → AtComma other → Takes rounds_number rounds other
  pub takes_further : Takes (further_parts None) further []
  pub shows : second ≡ record { nonce = nonce; salt = decoded salt; rounds = number_of rounds }

second_values : (values : List (List ℕ)) (text rest : List ℕ) (second : Second) → Spelled second_format values text rest → second ≡ record { nonce = piece values 0; salt = decoded (piece values 1); rounds = number_of (piece values 2) } → SecondSpelled text second
unfolding second_format
second_values [] text rest second s e = absurd s.2
second_values (a ∷ []) text rest second s e = absurd s.2.3.2
second_values (a ∷ b ∷ []) text rest second s e = absurd s.2.3.2.3.2
second_values (a ∷ b ∷ c ∷ []) text rest second s e = absurd s.2.3.2.3.2.3
second_values (a ∷ b ∷ c ∷ d ∷ others) text rest second s e =
    let n = s.2 in
    let m = n.3.2 in
    let i = m.3.2 in
    let last : i.0 ≡ d = ends_here d i.3.0 i.0 i.3.1 i.3.3.0 in
    record {
      nonce = a;
      salt = b;
      rounds = c;
      further = d;
      same = s.1 ∙ ap (λ (os : List ℕ). codes "r=" ++ os) (n.1 ∙ ap (λ (os : List ℕ). a ++ os) (n.3.1 ∙ ap (λ (os : List ℕ). codes ",s=" ++ os) (m.1 ∙ ap (λ (os : List ℕ). b ++ os) (m.3.1 ∙ ap (λ (os : List ℕ). codes ",i=" ++ os) (i.1 ∙ ap (λ (os : List ℕ). c ++ os) last)))));
      takes_nonce = λ other at. nonce-again 256 a n.0 other n.2 at;
      takes_salt = λ other at. base64-again 1 64 b m.0 other m.2 at;
      takes_rounds = λ other at. rounds-again c i.0 other i.2 at;
      takes_further = subst (λ (os : List ℕ). Takes (further_parts None) d os) i.3.3.0 i.3.2;
      shows = e;
    }

pub second-spelled : (text : List ℕ) (second : Second) → second_of text ≡ given second → SecondSpelled text second
unfolding second_of
second-spelled text second e =
    let b = bind_ok (values_of second_format text) _ second e in
    let s = pieces_of-found second_format b.0 text (values-read second_format text b.0 b.1) in
    second_values b.0 text s.0 second s.1 (sym (given_is _ second b.2))

pub record ThirdSpelled (third : Third) : Type 0 where
  pub binding : List ℕ
  pub nonce : List ℕ
  pub further : List ℕ
  pub bare : third.bare ≡ codes "c=" ++ (binding ++ (codes ",r=" ++ (nonce ++ further)))
  pub takes_binding : (other : List ℕ) → AtComma other → Takes (base64 0 32768) binding other
  pub takes_nonce : (other : List ℕ) → AtComma other → Takes (some Nonce 256) nonce other
  pub takes_further : Takes (further_parts None) further []
  pub shows_binding : third.binding ≡ decoded binding
  pub shows_nonce : third.nonce ≡ nonce

take_front : (xs ys : List ℕ) → take (length xs) (xs ++ ys) ≡ xs
take_front xs ys = grind (arith, common_steps)

-- a proof takes 28 signs
proof_signs : (value rest : List ℕ) → Takes (base64 20 20) value rest → length value ≡ 28
proof_signs value rest t =
    let w = symbols_walk (record { spot = spots.First; need = 20; left = 20 }) value t.last t.passed in
    let d = decodes 20 20 value w.0 w.1 (subst (λ (s : State). ends s ≡ true) (sym w.2) t.ended) in
    let long : length (decoded value) ≡ 20 = omega (arith, d.enough, d.few) in
    ap length d.spelled ∙ (sym (ap length (encoded-signs (decoded value))) ∙ omega (arith, length-encoded (decoded value), long))

-- the text in front of its proof
bare_front : (text front b r u w p : List ℕ) → text ≡ codes "c=" ++ (b ++ (codes ",r=" ++ (r ++ (u ++ (codes "=" ++ p))))) → u ≡ w ++ 44 ∷ 112 ∷ [] → length p ≡ 28
    → take (length text - 31) text ≡ codes "c=" ++ (b ++ (codes ",r=" ++ (r ++ w)))
bare_front text front b r u w p e f long =
    let whole = codes "c=" ++ (b ++ (codes ",r=" ++ (r ++ w))) in
    let tail = codes ",p=" ++ p in
    let parts : text ≡ whole ++ tail = e ∙ rw f (simp append_assoc) in
    let size : length (whole ++ tail) - 31 ≡ length whole = omega (arith, length-append whole tail, length-append (codes ",p=") p) in
    rw parts (rw size (take_front whole tail))

third_values : (values : List (List ℕ)) (text rest : List ℕ) (third : Third) → Spelled third_format values text rest → third ≡ record { binding = decoded (piece values 0); nonce = piece values 1; proof = decoded (piece values 3); bare = take (length text - 31) text } → ThirdSpelled third
unfolding third_format
third_values [] text rest third s e = absurd s.2
third_values (a ∷ []) text rest third s e = absurd s.2.3.2
third_values (a ∷ b ∷ []) text rest third s e = absurd s.2.3.2.3
third_values (a ∷ b ∷ c ∷ []) text rest third s e = absurd s.2.3.2.3.3.2
third_values (a ∷ b ∷ c ∷ d ∷ others) text rest third s e =
    let n = s.2 in
    let m = n.3.2 in
    let u = m.3 in
    let p = u.3.2 in
    let last : p.0 ≡ [] = p.3.0 in
    let proof : u.3.0 ≡ d = ends_here d p.0 u.3.0 p.1 last in
    let k = cut 112 c u.0 u.2 in
    let text_is : text ≡ codes "c=" ++ (a ++ (codes ",r=" ++ (b ++ (c ++ (codes "=" ++ d))))) =
    s.1 ∙ ap (λ (os : List ℕ). codes "c=" ++ os) (n.1 ∙ ap (λ (os : List ℕ). a ++ os) (n.3.1 ∙ ap (λ (os : List ℕ). codes ",r=" ++ os) (m.1 ∙ ap (λ (os : List ℕ). b ++ os) (u.1 ∙ ap (λ (os : List ℕ). c ++ os) (u.3.1 ∙ ap (λ (os : List ℕ). codes "=" ++ os) proof))))) in
    record {
      binding = a;
      nonce = b;
      further = k.front;
      bare = ap (λ (t : Third). t.bare) e ∙ bare_front text [] a b c k.front d text_is k.same (proof_signs d p.0 p.2);
      takes_binding = λ other at. base64-again 0 32768 a n.0 other n.2 at;
      takes_nonce = λ other at. nonce-again 256 b m.0 other m.2 at;
      takes_further = k.takes;
      shows_binding = ap (λ (t : Third). t.binding) e;
      shows_nonce = ap (λ (t : Third). t.nonce) e;
    }

pub third-spelled : (text : List ℕ) (third : Third) → third_of text ≡ given third → ThirdSpelled third
unfolding third_of
third-spelled text third e =
    let b = bind_ok (values_of third_format text) _ third e in
    let s = pieces_of-found third_format b.0 text (values-read third_format text b.0 b.1) in
    third_values b.0 text s.0 third s.1 (sym (given_is _ third b.2))

-- ---- the AuthMessage

after_cut : (w : List ℕ) (letter : ℕ) (tail : List ℕ) → AtComma (w ++ 44 ∷ letter ∷ 61 ∷ tail) → AtComma ((w ++ 44 ∷ letter ∷ []) ++ 61 ∷ tail)
after_cut w letter tail at = subst AtComma (sym (append_assoc w (44 ∷ letter ∷ []) (61 ∷ tail))) at

abbrev values_with : {t1 t2 : List ℕ} {first : First} {second : Second} {third : Third} → FirstSpelled t1 first → SecondSpelled t2 second → ThirdSpelled third → List (List ℕ)
values_with f s d = f.name ∷ f.nonce ∷ (f.further ++ 44 ∷ 114 ∷ []) ∷ s.nonce ∷ s.salt ∷ s.rounds ∷ (s.further ++ 44 ∷ 99 ∷ []) ∷ d.binding ∷ d.nonce ∷ d.further ∷ []

-- a text in front of a comma and what stands behind it
first_front : (n r w z : List ℕ) → (110 ∷ 61 ∷ (n ++ (44 ∷ 114 ∷ 61 ∷ (r ++ w)))) ++ 44 ∷ 114 ∷ 61 ∷ z ≡ 110 ∷ 61 ∷ (n ++ (44 ∷ 114 ∷ 61 ∷ (r ++ ((w ++ 44 ∷ 114 ∷ []) ++ 61 ∷ z))))
first_front n r w z = rw (append_assoc n (44 ∷ 114 ∷ 61 ∷ (r ++ w)) (44 ∷ 114 ∷ 61 ∷ z), append_assoc r w (44 ∷ 114 ∷ 61 ∷ z), append_assoc w (44 ∷ 114 ∷ []) (61 ∷ z)) refl

second_front : (r s i w z : List ℕ) → (r ++ (44 ∷ 115 ∷ 61 ∷ (s ++ (44 ∷ 105 ∷ 61 ∷ (i ++ w))))) ++ 44 ∷ 99 ∷ 61 ∷ z ≡ r ++ (44 ∷ 115 ∷ 61 ∷ (s ++ (44 ∷ 105 ∷ 61 ∷ (i ++ ((w ++ 44 ∷ 99 ∷ []) ++ 61 ∷ z)))))
second_front r s i w z =
    rw (append_assoc r (44 ∷ 115 ∷ 61 ∷ (s ++ (44 ∷ 105 ∷ 61 ∷ (i ++ w)))) (44 ∷ 99 ∷ 61 ∷ z), append_assoc s (44 ∷ 105 ∷ 61 ∷ (i ++ w)) (44 ∷ 99 ∷ 61 ∷ z), append_assoc i w (44 ∷ 99 ∷ 61 ∷ z), append_assoc w (44 ∷ 99 ∷ []) (61 ∷ z)) refl

three_texts : (x y z : List ℕ) → (((x ++ 44 ∷ []) ++ y) ++ 44 ∷ []) ++ z ≡ x ++ 44 ∷ (y ++ 44 ∷ z)
three_texts x y z =
    append_assoc ((x ++ 44 ∷ []) ++ y) (44 ∷ []) z ∙ (append_assoc (x ++ 44 ∷ []) y (44 ∷ z) ∙ append_assoc x (44 ∷ []) (y ++ 44 ∷ z))

join : (n r w r2 s i w2 b r3 w3 : List ℕ)
    → (((((110 ∷ 61 ∷ (n ++ (44 ∷ 114 ∷ 61 ∷ (r ++ w)))) ++ 44 ∷ []) ++ (114 ∷ 61 ∷ (r2 ++ (44 ∷ 115 ∷ 61 ∷ (s ++ (44 ∷ 105 ∷ 61 ∷ (i ++ w2))))))) ++ 44 ∷ []) ++ (99 ∷ 61 ∷ (b ++ (44 ∷ 114 ∷ 61 ∷ (r3 ++ w3)))))
    ≡ 110 ∷ 61 ∷ (n ++ (44 ∷ 114 ∷ 61 ∷ (r ++ ((w ++ 44 ∷ 114 ∷ []) ++ 61 ∷ (r2 ++ (44 ∷ 115 ∷ 61 ∷ (s ++ (44 ∷ 105 ∷ 61 ∷ (i ++ ((w2 ++ 44 ∷ 99 ∷ []) ++ 61 ∷ (b ++ (44 ∷ 114 ∷ 61 ∷ (r3 ++ (w3 ++ []))))))))))))))
join n r w r2 s i w2 b r3 w3 =
    let x = 110 ∷ 61 ∷ (n ++ (44 ∷ 114 ∷ 61 ∷ (r ++ w))) in
    let y = r2 ++ (44 ∷ 115 ∷ 61 ∷ (s ++ (44 ∷ 105 ∷ 61 ∷ (i ++ w2)))) in
    let z = b ++ (44 ∷ 114 ∷ 61 ∷ (r3 ++ w3)) in
    three_texts x (114 ∷ 61 ∷ y) (99 ∷ 61 ∷ z)
    ∙ (ap (λ (os : List ℕ). x ++ 44 ∷ 114 ∷ 61 ∷ os) (second_front r2 s i w2 z)
    ∙ (first_front n r w (r2 ++ (44 ∷ 115 ∷ 61 ∷ (s ++ (44 ∷ 105 ∷ 61 ∷ (i ++ ((w2 ++ 44 ∷ 99 ∷ []) ++ 61 ∷ z))))))
    ∙ ap (λ (os : List ℕ). 110 ∷ 61 ∷ (n ++ (44 ∷ 114 ∷ 61 ∷ (r ++ ((w ++ 44 ∷ 114 ∷ []) ++ 61 ∷ (r2 ++ (44 ∷ 115 ∷ 61 ∷ (s ++ (44 ∷ 105 ∷ 61 ∷ (i ++ ((w2 ++ 44 ∷ 99 ∷ []) ++ 61 ∷ (b ++ (44 ∷ 114 ∷ 61 ∷ (r3 ++ os)))))))))))))) (sym (append-nil w3))))

pub auth-spelled : (t1 t2 : List ℕ) (first : First) (second : Second) (third : Third) (f : FirstSpelled t1 first) (s : SecondSpelled t2 second) (d : ThirdSpelled third)
    → Spelled auth_format (values_with f s d) (auth_message t1 t2 third.bare) []
unfolding auth_format second_part third_part auth_message
auth-spelled t1 t2 first second third f s d =
    let end3 = d.nonce ++ (d.further ++ []) in
    let end2 = d.binding ++ (codes ",r=" ++ end3) in
    let back7 = (s.further ++ 44 ∷ 99 ∷ []) ++ (codes "=" ++ end2) in
    let back6 = s.rounds ++ back7 in
    let back5 = s.salt ++ (codes ",i=" ++ back6) in
    let back4 = s.nonce ++ (codes ",s=" ++ back5) in
    let back3 = (f.further ++ 44 ∷ 114 ∷ []) ++ (codes "=" ++ back4) in
    let back2 = f.nonce ++ back3 in
    let back1 = f.name ++ (codes ",r=" ++ back2) in
    let whole : auth_message t1 t2 third.bare ≡ codes "n=" ++ back1 = rw (f.same, s.same, d.bare) (join f.name f.nonce f.further s.nonce s.salt s.rounds s.further d.binding d.nonce d.further) in (
      back1,
      whole,
      (
        codes ",r=" ++ back2,
        refl,
        f.takes_name (codes ",r=" ++ back2) refl,
        (
          back2,
          refl,
          (
            back3,
            refl,
            f.takes_nonce back3 (after_cut f.further 114 back4 (further-comma None f.further [] (44 ∷ 114 ∷ 61 ∷ back4) f.takes_further refl)),
            (
              codes "=" ++ back4,
              refl,
              closed 114 f.further [] back4 refl f.takes_further,
              (
                back4,
                refl,
                (
                  codes ",s=" ++ back5,
                  refl,
                  s.takes_nonce (codes ",s=" ++ back5) refl,
                  (
                    back5,
                    refl,
                    (
                      codes ",i=" ++ back6,
                      refl,
                      s.takes_salt (codes ",i=" ++ back6) refl,
                      (
                        back6,
                        refl,
                        (
                          back7,
                          refl,
                          s.takes_rounds back7 (after_cut s.further 99 end2 (further-comma None s.further [] (44 ∷ 99 ∷ 61 ∷ end2) s.takes_further refl)),
                          (
                            codes "=" ++ end2,
                            refl,
                            closed 99 s.further [] end2 refl s.takes_further,
                            (
                              end2,
                              refl,
                              (
                                codes ",r=" ++ end3,
                                refl,
                                d.takes_binding (codes ",r=" ++ end3) refl,
                                (
                                  end3,
                                  refl,
                                  (
                                    d.further ++ [],
                                    refl,
                                    d.takes_nonce (d.further ++ []) (further-comma None d.further [] [] d.takes_further tt),
                                    (
                                      [],
                                      refl,
                                      d.takes_further,
                                      (refl, refl),
                                    ),
                                  ),
                                ),
                              ),
                            ),
                          ),
                        ),
                      ),
                    ),
                  ),
                ),
              ),
            ),
          ),
        ),
      ),
    )

pub parts-of : (t1 t2 t3 : List ℕ) (first : First) (second : Second) (third : Third) → first_of t1 ≡ given first → second_of t2 ≡ given second → third_of t3 ≡ given third
    → auth_parts (auth_message t1 t2 third.bare) ≡ Some (record { name = first.name; client = first.nonce; nonce = second.nonce; salt = second.salt; rounds = second.rounds; binding = third.binding; last_nonce = third.nonce })
unfolding auth_parts
parts-of t1 t2 t3 first second third a b c =
    let f = first-spelled t1 first a in
    let s = second-spelled t2 second b in
    let d = third-spelled t3 third c in
    let name = sym (ap (λ (x : First). x.name) f.shows) in
    let client = sym (ap (λ (x : First). x.nonce) f.shows) in
    let nonce = sym (ap (λ (x : Second). x.nonce) s.shows) in
    let salt = sym (ap (λ (x : Second). x.salt) s.shows) in
    let rounds = sym (ap (λ (x : Second). x.rounds) s.shows) in
    let binding = sym d.shows_binding in
    let last = sym d.shows_nonce in
    ap parts_in (pieces_of-only auth_format (values_with f s d) (auth_message t1 t2 third.bare) [] (auth-spelled t1 t2 first second third f s d))
    ∙ (λ i. Some (record { name = name i; client = client i; nonce = nonce i; salt = salt i; rounds = rounds i; binding = binding i; last_nonce = last i }))

-- ---- one cut

abbrev read_all : List (List ℕ) → Result (List (List ℕ)) Stuck
read_all values = Ok values

without_letter : (w : List ℕ) (letter : ℕ) → take (length (w ++ 44 ∷ letter ∷ []) - 2) (w ++ 44 ∷ letter ∷ []) ≡ w
without_letter w letter =
    let size : length (w ++ 44 ∷ letter ∷ []) - 2 ≡ length w = omega (arith, length-append w (44 ∷ letter ∷ [])) in
    rw size (take_front w (44 ∷ letter ∷ []))

-- a text up to its letter, without the letter
abbrev shortened : List ℕ → List ℕ
shortened w = take (length w - 2) w

abbrev first_by : List (List ℕ) → List ℕ
first_by vs = codes "n=" ++ (piece vs 0 ++ (codes ",r=" ++ (piece vs 1 ++ shortened (piece vs 2))))

abbrev second_by : List (List ℕ) → List ℕ
second_by vs = codes "r=" ++ (piece vs 3 ++ (codes ",s=" ++ (piece vs 4 ++ (codes ",i=" ++ (piece vs 5 ++ shortened (piece vs 6))))))

abbrev third_by : List (List ℕ) → List ℕ
third_by vs = codes "c=" ++ (piece vs 7 ++ (codes ",r=" ++ (piece vs 8 ++ piece vs 9)))

-- two AuthMessages that are the same have the same three texts
pub one-cut : (t1 t2 t3 u1 u2 u3 : List ℕ) (first : First) (second : Second) (third : Third) (other : First) (next : Second) (last : Third)
    → first_of t1 ≡ given first → second_of t2 ≡ given second → third_of t3 ≡ given third → first_of u1 ≡ given other → second_of u2 ≡ given next → third_of u3 ≡ given last
    → auth_message t1 t2 third.bare ≡ auth_message u1 u2 last.bare → (t1 ≡ u1) × (t2 ≡ u2) × (third.bare ≡ last.bare)
one-cut t1 t2 t3 u1 u2 u3 first second third other next last a b c a' b' c' same =
    let f = first-spelled t1 first a in
    let s = second-spelled t2 second b in
    let d = third-spelled t3 third c in
    let f' = first-spelled u1 other a' in
    let s' = second-spelled u2 next b' in
    let d' = third-spelled u3 last c' in
    let vs = values_with f s d in
    let ws = values_with f' s' d' in
    let read = pieces_of-only auth_format vs (auth_message t1 t2 third.bare) [] (auth-spelled t1 t2 first second third f s d) in
    let read' = pieces_of-only auth_format ws (auth_message u1 u2 last.bare) [] (auth-spelled u1 u2 other next last f' s' d') in
    let values : vs ≡ ws = ok_is vs ws (sym read ∙ (ap (λ (auth : List ℕ). pieces_of auth_format auth) same ∙ read')) in
    let one : t1 ≡ first_by vs = f.same ∙ ap (λ (w : List ℕ). codes "n=" ++ (f.name ++ (codes ",r=" ++ (f.nonce ++ w)))) (sym (without_letter f.further 114)) in
    let one' : u1 ≡ first_by ws = f'.same ∙ ap (λ (w : List ℕ). codes "n=" ++ (f'.name ++ (codes ",r=" ++ (f'.nonce ++ w)))) (sym (without_letter f'.further 114)) in
    let two : t2 ≡ second_by vs = s.same ∙ ap (λ (w : List ℕ). codes "r=" ++ (s.nonce ++ (codes ",s=" ++ (s.salt ++ (codes ",i=" ++ (s.rounds ++ w)))))) (sym (without_letter s.further 99)) in
    let two' : u2 ≡ second_by ws = s'.same ∙ ap (λ (w : List ℕ). codes "r=" ++ (s'.nonce ++ (codes ",s=" ++ (s'.salt ++ (codes ",i=" ++ (s'.rounds ++ w)))))) (sym (without_letter s'.further 99)) in
    (one ∙ (ap first_by values ∙ sym one'), two ∙ (ap second_by values ∙ sym two'), d.bare ∙ (ap third_by values ∙ sym d'.bare))
