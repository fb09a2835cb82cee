-- What is written is read.
use Rattle.std.proofs.Common.{◌≡◌, ℕ, zero, suc, ◌+◌, ◌-◌, ◌*◌, ◌/◌, ◌%◌, ◌^◌, ◌<◌, ◌≤◌, Bool, true, false, cond, ◌&&◌, ◌||◌, ◌==◌, List, [], ◌∷◌, ◌++◌, length, take, Some, None, Ok, nat_eq, refl, sym, ap, ◌∙◌, arith, subst, append_assoc, length-append, codes}
use Rattle.std.proofs.lemmas.List.{append-nil}
use Rattle.std.proofs.lemmas.Grind.{common_steps}
use Rattle.std.proofs.Common.{inl, inr}
use Rattle.std.proofs.lemmas.Bool.{cases_lt}
use Rattle.std.specs.List.{list_all}
use Rattle.std.specs.Fmt.{decimal}
use Rattle.std.proofs.lemmas.Bool.Decides.{nat_tests}
use Rattle.base64.specs.GeneralPurpose.{IsBytes}
use Rattle.scram_mech.specs.declared.run.Class.{Class}
use Rattle.scram_mech.specs.declared.run.Class.TheVariants.{Nonce}
use Rattle.scram_mech.specs.declared.run.Run.{Run}
use Rattle.scram_mech.specs.declared.name.Escape.TheVariants.{Outside}
use Rattle.scram_mech.specs.declared.digits.Digits.TheVariants as digits
use Rattle.scram_mech.specs.declared.symbols.Spot.TheVariants as spots
use Rattle.scram_mech.specs.declared.symbols.Symbols.{Symbols}
use Rattle.scram_mech.specs.declared.further.Due.TheVariants as dues
use Rattle.scram_mech.specs.declared.state.State.TheVariants as states
use Rattle.scram_mech.specs.Signs.{is_printable, is_nonce, sextet_of}
use Rattle.scram_mech.specs.State.{some, a_name, rounds_number, base64, further_parts, step}
use Rattle.scram_mech.specs.Run.{has, run_step}
use Rattle.scram_mech.specs.Name.{escaped, unescaped, name_step}
use Rattle.scram_mech.specs.Digits.{digits_step}
use Rattle.scram_mech.specs.Symbols.{symbols_step}
use Rattle.scram_mech.specs.Base64.{encoded, bits, decoded}
use Rattle.scram_mech.specs.Formats.{Segment, Value, End, is_mandatory, values_of}
use Rattle.scram_mech.specs.FirstText.{first_format, first_of, first_text}
use Rattle.scram_mech.specs.SecondText.{second_format, second_of, second_text}
use Rattle.scram_mech.specs.ThirdText.{third_format, third_of, bare_text, with_proof}
use Rattle.scram_mech.specs.FinalText.{signature_format, begins_as_error, final_of, final_text}
use Rattle.scram_mech.specs.Judging.{judged}
use Rattle.scram_mech.proofs.Walks.{walk, walk-map, Stops}
use Rattle.scram_mech.proofs.Sextets.{sign, sextet-of_sign, not_equals, and_true}
use Rattle.scram_mech.proofs.SymbolSteps.{st}
use Rattle.scram_mech.proofs.RunWalks.{run_of}
use Rattle.scram_mech.proofs.Signs64.{signs, encoded-signs}
use Rattle.scram_mech.proofs.KindWalks.{run-walks, name_of, name-walks}
use Rattle.scram_mech.proofs.SignWalks.{signs-walk, decimal-walk, number-decimal}
use Rattle.scram_mech.proofs.Pieces.{Spelled, Takes, pieces_of-only}

-- ---- values of each kind

or_true : (b : Bool) → (b || true) ≡ true
or_true true = refl
or_true false = refl

-- no octet of a nonce is a comma
nonce_stops : (r : Run) → r.class ≡ Nonce → run_step r 44 ≡ None
nonce_stops r kind = rw (kind, or_true (r.left == 0)) refl

state_stops : (r : Run) → run_step r 44 ≡ None → step (states.Run r) 44 ≡ None
state_stops r e = rw e refl

-- a rest that is empty, or begins with a comma
abbrev pub AtComma : List ℕ → Type 0
AtComma [] = Unit {0}
AtComma (x ∷ xs) = x ≡ 44

run_stops_at : (r : Run) (rest : List ℕ) → r.class ≡ Nonce → AtComma rest → Stops step (states.Run r) rest
run_stops_at r [] kind at = tt
run_stops_at r (x ∷ xs) kind at = subst (λ (y : ℕ). step (states.Run r) y ≡ None) (sym at) (state_stops r (nonce_stops r kind))

pub takes-nonce : (most : ℕ) (nonce rest : List ℕ) → list_all is_nonce nonce ≡ true → 1 ≤ length nonce → length nonce ≤ most → AtComma rest → Takes (some Nonce most) nonce rest
takes-nonce most nonce rest each enough few at =
    let w = run-walks Nonce 1 most nonce each few in
    let none : w.last.need ≡ 0 = omega (arith, w.need_left) in
    record {
      last = states.Run w.last;
      passed = walk-map states.Run run_step step (λ t x. refl) (run_of Nonce 1 most) nonce ∙ rw w.passed refl;
      ended = rw none refl;
      stops = run_stops_at w.last rest w.kind at;
    }

name_stops_at : (need left : ℕ) (rest : List ℕ) → AtComma rest → Stops step (states.Name (name_of need left)) rest
name_stops_at need left [] at = tt
name_stops_at need left (x ∷ xs) at = subst (λ (y : ℕ). step (states.Name (name_of need left)) y ≡ None) (sym at) refl

pub takes-name : (name rest : List ℕ) → list_all is_printable name ≡ true → 1 ≤ length name → length name ≤ 255 → AtComma rest → Takes a_name (escaped name) rest
takes-name name rest each enough few at =
    let none : (1 - length name) ≡ 0 = omega arith in
    record {
      last = states.Name (name_of (1 - length name) (255 - length name));
      passed = walk-map states.Name name_step step (λ t x. refl) (name_of 1 255) (escaped name) ∙ rw (name-walks 1 255 name each few) refl;
      ended = rw none refl;
      stops = name_stops_at (1 - length name) (255 - length name) rest at;
    }

symbols_stop : (s : Symbols) → step (states.Symbols s) 44 ≡ None
unfolding symbols_step sextet_of
symbols_stop s = refl

symbols_stop_at : (s : Symbols) (rest : List ℕ) → AtComma rest → Stops step (states.Symbols s) rest
symbols_stop_at s [] at = tt
symbols_stop_at s (x ∷ xs) at = subst (λ (y : ℕ). step (states.Symbols s) y ≡ None) (sym at) (symbols_stop s)

pub takes-base64 : (least most : ℕ) (octets rest : List ℕ) → IsBytes octets → least ≤ length octets → length octets ≤ most → AtComma rest → Takes (base64 least most) (encoded octets) rest
takes-base64 least most octets rest bytes enough few at =
    let w = signs-walk least most octets bytes enough few in
    let passed : walk step (base64 least most) (signs octets) ≡ Some (states.Symbols w.last) = walk-map states.Symbols symbols_step step (λ t x. refl) (st spots.First least most) (signs octets) ∙ rw w.passed refl in
    record {
      last = states.Symbols w.last;
      passed = rw (encoded-signs octets) passed;
      ended = w.ended;
      stops = symbols_stop_at w.last rest at;
    }

pub takes-rounds : (n : ℕ) → 0 < n → n < 10 ^ 10 → Takes rounds_number (decimal n) []
takes-rounds n some few =
    let w = decimal-walk n some few in
    record {
      last = states.Digits w.0;
      passed = walk-map states.Digits digits_step step (λ t x. refl) digits.First (decimal n) ∙ rw w.1 refl;
      ended = w.2;
      stops = tt;
    }

pub takes-none : Takes (further_parts None) [] []
unfolding walk
takes-none = record { last = further_parts None; passed = refl; ended = refl; stops = tt }

-- the last part's letter
takes_proof_letter : (rest : List ℕ) → Takes (further_parts (Some 112)) (44 ∷ 112 ∷ []) (61 ∷ rest)
unfolding walk
takes_proof_letter rest = record { last = states.Further (record { due = dues.Nothing; last = Some 112 }); passed = refl; ended = refl; stops = refl }

-- ---- decoding

bits-sign : (k : ℕ) → k < 64 → bits (sign k) ≡ k
bits-sign k lt = rw (sextet-of_sign k lt) refl

sign_other : (k : ℕ) → k < 64 → nat_eq (sign k) 61 ≡ false
sign_other k lt = not_equals (sign k) k (sextet-of_sign k lt)

one_back : (a : ℕ) → a < 256 → decoded (sign (a / 4) ∷ sign (a % 4 * 16) ∷ 61 ∷ 61 ∷ []) ≡ a ∷ []
unfolding decoded
one_back a la =
    let e : a / 4 * 4 + a % 4 * 16 / 16 ≡ a = omega arith in
    rw (bits-sign (a / 4) (omega arith), bits-sign (a % 4 * 16) (omega arith), e) refl

two_back : (a b : ℕ) → a < 256 → b < 256 → decoded (sign (a / 4) ∷ sign (a % 4 * 16 + b / 16) ∷ sign (b % 16 * 4) ∷ 61 ∷ []) ≡ a ∷ b ∷ []
unfolding decoded
two_back a b la lb =
    let v = a % 4 * 16 + b / 16 in
    let w = b % 16 * 4 in
    let e : a / 4 * 4 + v / 16 ≡ a = omega arith in
    let f : v % 16 * 16 + w / 4 ≡ b = omega arith in
    rw (sign_other w (omega arith), bits-sign (a / 4) (omega arith), bits-sign v (omega arith), bits-sign w (omega arith), e, f) refl

three_back : (a b c : ℕ) (rest : List ℕ) → a < 256 → b < 256 → c < 256 → decoded (sign (a / 4) ∷ sign (a % 4 * 16 + b / 16) ∷ sign (b % 16 * 4 + c / 64) ∷ sign (c % 64) ∷ rest) ≡ a ∷ b ∷ c ∷ decoded rest
unfolding decoded
three_back a b c rest la lb lc =
    let v = a % 4 * 16 + b / 16 in
    let w = b % 16 * 4 + c / 64 in
    let u = c % 64 in
    let e : a / 4 * 4 + v / 16 ≡ a = omega arith in
    let f : v % 16 * 16 + w / 4 ≡ b = omega arith in
    let g : w % 4 * 64 + u ≡ c = omega arith in
    rw (sign_other w (omega arith), sign_other u (omega arith), bits-sign (a / 4) (omega arith), bits-sign v (omega arith), bits-sign w (omega arith), bits-sign u (omega arith), e, f, g) refl

decoded-signs : (octets : List ℕ) → IsBytes octets → decoded (signs octets) ≡ octets
unfolding decoded signs
decoded-signs [] bytes = refl
decoded-signs (a ∷ []) bytes = one_back a (bytes 0)
decoded-signs (a ∷ b ∷ []) bytes = two_back a b (bytes 0) (bytes 1)
decoded-signs (a ∷ b ∷ c ∷ octets) bytes =
    three_back a b c (signs octets) (bytes 0) (bytes 1) (bytes 2) ∙ ap (λ (os : List ℕ). a ∷ b ∷ c ∷ os) (decoded-signs octets (λ i. bytes (suc (suc (suc i)))))

pub decoded-encoded : (octets : List ℕ) → IsBytes octets → decoded (encoded octets) ≡ octets
decoded-encoded octets bytes = rw (encoded-signs octets) (decoded-signs octets bytes)

length-signs : (octets : List ℕ) → length (signs octets) ≡ 4 * ((length octets + 2) / 3)
unfolding signs
length-signs [] = refl
length-signs (a ∷ []) = refl
length-signs (a ∷ b ∷ []) = refl
length-signs (a ∷ b ∷ c ∷ octets) = omega (arith, length-signs octets)

pub length-encoded : (octets : List ℕ) → length (encoded octets) ≡ 4 * ((length octets + 2) / 3)
length-encoded octets = ap length (encoded-signs octets) ∙ length-signs octets

unescaped-plain : (x : ℕ) (xs : List ℕ) (b c : Bool) → (x == 44) ≡ b → (x == 61) ≡ c → unescaped Outside (cond b (61 ∷ 50 ∷ 67 ∷ []) (cond c (61 ∷ 51 ∷ 68 ∷ []) (x ∷ [])) ++ xs) ≡ x ∷ unescaped Outside xs
unfolding unescaped
unescaped-plain x xs true c e f = let same : x ≡ 44 = grind (arith, nat_tests) in rw same refl
unescaped-plain x xs false true e f = let same : x ≡ 61 = grind (arith, nat_tests) in rw same refl
unescaped-plain x xs false false e f = rw f refl

pub unescaped-escaped : (name : List ℕ) → unescaped Outside (escaped name) ≡ name
unfolding unescaped escaped
unescaped-escaped [] = refl
unescaped-escaped (x ∷ xs) = unescaped-plain x (escaped xs) (x == 44) (x == 61) refl refl ∙ ap (λ (os : List ℕ). x ∷ os) (unescaped-escaped xs)

-- ---- texts

pub values-of : (format : List Segment) (text : List ℕ) (values : List (List ℕ)) → is_mandatory text ≡ false → Spelled format values text [] → values_of format text ≡ Ok values
unfolding values_of
values-of format text values plain s = rw (plain, pieces_of-only format values text [] s) refl

first_parts : (name nonce : List ℕ) → first_text name nonce ≡ codes "n=" ++ (escaped name ++ (codes ",r=" ++ (nonce ++ [])))
unfolding first_text
first_parts name nonce = simp (append_assoc, append-nil)

first_plain : (name nonce : List ℕ) → is_mandatory (first_text name nonce) ≡ false
unfolding first_text
first_plain name nonce = refl

pub first-read : (name nonce : List ℕ) → list_all is_printable name ≡ true → 1 ≤ length name → length name ≤ 255 → list_all is_nonce nonce ≡ true → 1 ≤ length nonce → length nonce ≤ 232
    → first_of (first_text name nonce) ≡ Ok (record { name = name; nonce = nonce })
unfolding first_of first_format
first-read name nonce named some few each enough most =
    let spelled : Spelled first_format (escaped name ∷ nonce ∷ [] ∷ []) (first_text name nonce) [] = (
      escaped name ++ (codes ",r=" ++ (nonce ++ [])),
      first_parts name nonce,
      (
        codes ",r=" ++ (nonce ++ []),
        refl,
        takes-name name (codes ",r=" ++ (nonce ++ [])) named some few refl,
        (
          nonce ++ [],
          refl,
          (
            [],
            refl,
            takes-nonce 232 nonce [] each enough most tt,
            (
              [],
              refl,
              takes-none,
              (refl, refl),
            ),
          ),
        ),
      ),
    ) in
    rw (values-of first_format (first_text name nonce) (escaped name ∷ nonce ∷ [] ∷ []) (first_plain name nonce) spelled) (rw (unescaped-escaped name) refl)

second_parts : (nonce salt : List ℕ) (rounds : ℕ) → second_text nonce salt rounds ≡ codes "r=" ++ (nonce ++ (codes ",s=" ++ (encoded salt ++ (codes ",i=" ++ (decimal rounds ++ [])))))
unfolding second_text
second_parts nonce salt rounds = simp (append_assoc, append-nil)

second_plain : (nonce salt : List ℕ) (rounds : ℕ) → is_mandatory (second_text nonce salt rounds) ≡ false
unfolding second_text
second_plain nonce salt rounds = refl

pub second-read : (nonce salt : List ℕ) (rounds : ℕ) → list_all is_nonce nonce ≡ true → 1 ≤ length nonce → length nonce ≤ 256 → IsBytes salt → 1 ≤ length salt → length salt ≤ 64 → 0 < rounds → rounds < 10 ^ 10
    → second_of (second_text nonce salt rounds) ≡ Ok (record { nonce = nonce; salt = salt; rounds = rounds })
unfolding second_of second_format
second-read nonce salt rounds each enough most bytes some few low high =
    let tail = codes ",i=" ++ (decimal rounds ++ []) in
    let spelled : Spelled second_format (nonce ∷ encoded salt ∷ decimal rounds ∷ [] ∷ []) (second_text nonce salt rounds) [] = (
      nonce ++ (codes ",s=" ++ (encoded salt ++ tail)),
      second_parts nonce salt rounds,
      (
        codes ",s=" ++ (encoded salt ++ tail),
        refl,
        takes-nonce 256 nonce (codes ",s=" ++ (encoded salt ++ tail)) each enough most refl,
        (
          encoded salt ++ tail,
          refl,
          (
            tail,
            refl,
            takes-base64 1 64 salt tail bytes some few refl,
            (
              decimal rounds ++ [],
              refl,
              (
                [],
                refl,
                takes-rounds rounds low high,
                (
                  [],
                  refl,
                  takes-none,
                  (refl, refl),
                ),
              ),
            ),
          ),
        ),
      ),
    ) in
    rw (values-of second_format (second_text nonce salt rounds) (nonce ∷ encoded salt ∷ decimal rounds ∷ [] ∷ []) (second_plain nonce salt rounds) spelled) (rw (decoded-encoded salt bytes, number-decimal rounds (omega arith)) refl)

third_parts : (binding nonce proof : List ℕ) → with_proof (bare_text binding nonce) proof ≡ codes "c=" ++ (encoded binding ++ (codes ",r=" ++ (nonce ++ ((44 ∷ 112 ∷ []) ++ (codes "=" ++ (encoded proof ++ []))))))
unfolding bare_text with_proof
third_parts binding nonce proof = simp (append_assoc, append-nil)

third_plain : (binding nonce proof : List ℕ) → is_mandatory (with_proof (bare_text binding nonce) proof) ≡ false
unfolding bare_text with_proof
third_plain binding nonce proof = refl

take_front : (xs ys : List ℕ) → take (length xs) (xs ++ ys) ≡ xs
take_front xs ys = grind (arith, common_steps)

cut_proof : (bare proof : List ℕ) → length proof ≡ 20 → take (length (with_proof bare proof) - 31) (with_proof bare proof) ≡ bare
unfolding with_proof
cut_proof bare proof long =
    let tail = codes ",p=" ++ encoded proof in
    let parts : (bare ++ codes ",p=") ++ encoded proof ≡ bare ++ tail = append_assoc bare (codes ",p=") (encoded proof) in
    let last : length tail ≡ 31 = omega (arith, length-append (codes ",p=") (encoded proof), length-encoded proof) in
    let all : length (bare ++ tail) - 31 ≡ length bare = omega (arith, length-append bare tail) in
    rw (parts, all) (take_front bare tail)

pub third-read : (binding nonce proof : List ℕ) → IsBytes binding → length binding ≤ 32768 → list_all is_nonce nonce ≡ true → 1 ≤ length nonce → length nonce ≤ 256 → IsBytes proof → length proof ≡ 20
    → third_of (with_proof (bare_text binding nonce) proof) ≡ Ok (record { binding = binding; nonce = nonce; proof = proof; bare = bare_text binding nonce })
unfolding third_of third_format
third-read binding nonce proof bound few each enough most bytes long =
    let last = codes "=" ++ (encoded proof ++ []) in
    let tail = (44 ∷ 112 ∷ []) ++ last in
    let text = with_proof (bare_text binding nonce) proof in
    let spelled : Spelled third_format (encoded binding ∷ nonce ∷ (44 ∷ 112 ∷ []) ∷ encoded proof ∷ []) text [] = (
      encoded binding ++ (codes ",r=" ++ (nonce ++ tail)),
      third_parts binding nonce proof,
      (
        codes ",r=" ++ (nonce ++ tail),
        refl,
        takes-base64 0 32768 binding (codes ",r=" ++ (nonce ++ tail)) bound (omega arith) few refl,
        (
          nonce ++ tail,
          refl,
          (
            tail,
            refl,
            takes-nonce 256 nonce tail each enough most refl,
            (
              last,
              refl,
              takes_proof_letter (encoded proof ++ []),
              (
                encoded proof ++ [],
                refl,
                (
                  [],
                  refl,
                  takes-base64 20 20 proof [] bytes (omega arith) (omega arith) tt,
                  (refl, refl),
                ),
              ),
            ),
          ),
        ),
      ),
    ) in
    rw (values-of third_format text (encoded binding ∷ nonce ∷ (44 ∷ 112 ∷ []) ∷ encoded proof ∷ []) (third_plain binding nonce proof) spelled)
    (rw (decoded-encoded binding bound, decoded-encoded proof bytes, cut_proof (bare_text binding nonce) proof long) refl)

final_parts : (signature : List ℕ) → final_text signature ≡ codes "v=" ++ (encoded signature ++ [])
unfolding final_text
final_parts signature = simp append-nil

final_plain : (signature : List ℕ) → is_mandatory (final_text signature) ≡ false
unfolding final_text
final_plain signature = refl

no_error : (signature : List ℕ) → begins_as_error (final_text signature) ≡ false
unfolding final_text
no_error signature = refl

pub final-read : (signature : List ℕ) → IsBytes signature → length signature ≡ 20 → final_of (final_text signature) ≡ Ok signature
unfolding final_of signature_format
final-read signature bytes long =
    let spelled : Spelled signature_format (encoded signature ∷ [] ∷ []) (final_text signature) [] = (
      encoded signature ++ [],
      final_parts signature,
      (
        [],
        refl,
        takes-base64 20 20 signature [] bytes (omega arith) (omega arith) tt,
        (
          [],
          refl,
          takes-none,
          (refl, refl),
        ),
      ),
    ) in
    rw (no_error signature, values-of signature_format (final_text signature) (encoded signature ∷ [] ∷ []) (final_plain signature) spelled) (rw (decoded-encoded signature bytes) refl)

-- ---- nonces

abbrev all_below : (ℕ → Bool) → ℕ → Bool
all_below p zero = true
all_below p (suc n) = p n && all_below p n

below-each : (p : ℕ → Bool) (n : ℕ) → all_below p n ≡ true → (k : ℕ) → k < n → p k ≡ true
below-each p zero e k lt = absurd (omega arith)
below-each p (suc n) e k lt =
    let t = and_true (p n) (all_below p n) e in
    elim (cases_lt k n) [
      | inl a ↦ below-each p n t.1 k a
      | inr b ↦ let same : k ≡ n = omega arith in rw same t.0
    ]

signs_are_nonce : all_below (λ k. is_nonce (sign k)) 64 ≡ true
signs_are_nonce = refl

sign_nonce : (k : ℕ) → k < 64 → is_nonce (sign k) ≡ true
sign_nonce k lt = below-each (λ j. is_nonce (sign j)) 64 signs_are_nonce k lt

all_cons : (x : ℕ) (xs : List ℕ) → is_nonce x ≡ true → list_all is_nonce xs ≡ true → list_all is_nonce (x ∷ xs) ≡ true
all_cons x xs a b = rw (a, b) refl

signs-nonce : (octets : List ℕ) → IsBytes octets → list_all is_nonce (signs octets) ≡ true
unfolding signs
signs-nonce [] bytes = refl
signs-nonce (a ∷ []) bytes =
    let la : a < 256 = bytes 0 in
    all_cons (sign (a / 4)) (sign (a % 4 * 16) ∷ 61 ∷ 61 ∷ []) (sign_nonce (a / 4) (omega arith)) (all_cons (sign (a % 4 * 16)) (61 ∷ 61 ∷ []) (sign_nonce (a % 4 * 16) (omega arith)) refl)
signs-nonce (a ∷ b ∷ []) bytes =
    let la : a < 256 = bytes 0 in
    let lb : b < 256 = bytes 1 in
    all_cons (sign (a / 4)) (sign (a % 4 * 16 + b / 16) ∷ sign (b % 16 * 4) ∷ 61 ∷ []) (sign_nonce (a / 4) (omega arith))
    (all_cons (sign (a % 4 * 16 + b / 16)) (sign (b % 16 * 4) ∷ 61 ∷ []) (sign_nonce (a % 4 * 16 + b / 16) (omega arith))
    (all_cons (sign (b % 16 * 4)) (61 ∷ []) (sign_nonce (b % 16 * 4) (omega arith)) refl))
signs-nonce (a ∷ b ∷ c ∷ octets) bytes =
    let la : a < 256 = bytes 0 in
    let lb : b < 256 = bytes 1 in
    let lc : c < 256 = bytes 2 in
    all_cons (sign (a / 4)) (sign (a % 4 * 16 + b / 16) ∷ sign (b % 16 * 4 + c / 64) ∷ sign (c % 64) ∷ signs octets) (sign_nonce (a / 4) (omega arith))
    (all_cons (sign (a % 4 * 16 + b / 16)) (sign (b % 16 * 4 + c / 64) ∷ sign (c % 64) ∷ signs octets) (sign_nonce (a % 4 * 16 + b / 16) (omega arith))
    (all_cons (sign (b % 16 * 4 + c / 64)) (sign (c % 64) ∷ signs octets) (sign_nonce (b % 16 * 4 + c / 64) (omega arith))
    (all_cons (sign (c % 64)) (signs octets) (sign_nonce (c % 64) (omega arith)) (signs-nonce octets (λ i. bytes (suc (suc (suc i))))))))

pub encoded-nonce : (octets : List ℕ) → IsBytes octets → list_all is_nonce (encoded octets) ≡ true
encoded-nonce octets bytes = rw (encoded-signs octets) (signs-nonce octets bytes)

pub all-append : (p : ℕ → Bool) (xs ys : List ℕ) → list_all p xs ≡ true → list_all p ys ≡ true → list_all p (xs ++ ys) ≡ true
all-append p [] ys a b = b
all-append p (x ∷ xs) ys a b = let t = and_true (p x) (list_all p xs) a in rw (t.0, all-append p xs ys t.1 b) refl

-- ---- what is given

pub judged-whole : (class : Class) (most : ℕ) (octets : List ℕ) → list_all (has class) octets ≡ true → 1 ≤ length octets → length octets ≤ most → judged class most octets ≡ Ok tt
unfolding judged
judged-whole class most octets each enough few =
    let w = run-walks class 1 most octets each few in
    let none : w.last.need ≡ 0 = omega (arith, w.need_left) in
    let taken : Takes (some class most) octets [] = record {
      last = states.Run w.last;
      passed = walk-map states.Run run_step step (λ t x. refl) (run_of class 1 most) octets ∙ rw w.passed refl;
      ended = rw none refl;
      stops = tt;
    } in
    let spelled : Spelled (Value (some class most) ∷ End ∷ []) (octets ∷ []) octets [] = ([], sym (append-nil octets), taken, (refl, refl)) in
    rw (pieces_of-only (Value (some class most) ∷ End ∷ []) (octets ∷ []) octets [] spelled) refl
