-- A text of the grammar is read, to its values.
use Rattle.std.proofs.Common.{◌≡◌, ℕ, ◌-◌, ◌<◌, ◌^◌, true, false, List, [], ◌∷◌, ◌++◌, length, take, Result, Ok, Err, refl, sym, ap, ◌∙◌, arith, append_assoc, length-append, codes}
use Rattle.std.proofs.lemmas.List.{append-nil}
use Rattle.std.proofs.lemmas.Grind.{common_steps}
use Rattle.std.specs.List.{list_all}
use Rattle.std.specs.Fmt.{decimal}
use Rattle.scram_mech.specs.declared.refusal.ScramRefusal.{ScramRefusal}
use Rattle.scram_mech.specs.declared.refusal.ScramRefusal.TheVariants as refusals
use Rattle.scram_mech.specs.Signs.{is_value}
use Rattle.scram_mech.specs.Name.{escaped}
use Rattle.scram_mech.specs.Base64.{encoded}
use Rattle.scram_mech.specs.Formats.{is_mandatory}
use Rattle.scram_mech.specs.FirstText.{First, first_format, first_of}
use Rattle.scram_mech.specs.SecondText.{Second, second_format, second_of}
use Rattle.scram_mech.specs.ThirdText.{Third, third_format, third_of}
use Rattle.scram_mech.specs.FinalText.{signature_format, error_format, final_of}
use Rattle.scram_mech.specs.Grammar.{IsName, IsNonce, AreOctets, Extra, AreExtras, extras_text, SpellsFirst, SpellsSecond, SpellsThird, SpellsFinal, SpellsError}
use Rattle.scram_mech.proofs.SignWalks.{number-decimal}
use Rattle.scram_mech.proofs.Pieces.{Spelled}
use Rattle.scram_mech.proofs.Written.{AtComma, takes-nonce, takes-name, takes-base64, decoded-encoded, length-encoded, unescaped-escaped, values-of}
use Rattle.scram_mech.proofs.OneCut.{closed}
use Rattle.scram_mech.proofs.Extras.{takes-extras, takes-valued, extras-at}
use Rattle.scram_mech.proofs.ValueGrammar.{takes-number}

nothing : (xs : List ℕ) → xs ≡ xs ++ []
nothing xs = sym (append-nil xs)

-- ---- the first text

first_whole : (n r x : List ℕ) → codes "n=" ++ n ++ codes ",r=" ++ r ++ x ≡ codes "n=" ++ (n ++ (codes ",r=" ++ (r ++ x)))
first_whole n r x = simp append_assoc

first_read : (name nonce : List ℕ) (extras : List Extra) → IsName name → IsNonce 232 nonce → AreExtras extras
    → first_of (codes "n=" ++ (escaped name ++ (codes ",r=" ++ (nonce ++ extras_text extras)))) ≡ Ok (record { name = name; nonce = nonce })
unfolding first_of first_format
first_read name nonce extras named fresh free =
    let more = extras_text extras in
    let tail = codes ",r=" ++ (nonce ++ more) in
    let text = codes "n=" ++ (escaped name ++ tail) in
    let spelled : Spelled first_format (escaped name ∷ nonce ∷ more ∷ []) text [] = (
      escaped name ++ tail,
      refl,
      (
        tail,
        refl,
        takes-name name tail named.each named.some named.few refl,
        (
          nonce ++ more,
          refl,
          (
            more,
            refl,
            takes-nonce 232 nonce more fresh.each fresh.some fresh.few (extras-at extras),
            (
              [],
              nothing more,
              takes-extras extras free,
              (refl, refl),
            ),
          ),
        ),
      ),
    ) in
    rw (values-of first_format text (escaped name ∷ nonce ∷ more ∷ []) refl spelled) (rw (unescaped-escaped name) refl)

pub first-only : (text : List ℕ) (first : First) → SpellsFirst first text → first_of text ≡ Ok first
first-only text first s =
    ap first_of (s.same ∙ first_whole (escaped first.name) first.nonce (extras_text s.extras)) ∙ first_read first.name first.nonce s.extras s.named s.fresh s.free

-- ---- the second text

in_word : (n : ℕ) → n < 10 ^ 10 → n < 2 ^ 64
in_word n h = omega arith

second_whole : (r s i x : List ℕ) → codes "r=" ++ r ++ codes ",s=" ++ s ++ codes ",i=" ++ i ++ x ≡ codes "r=" ++ (r ++ (codes ",s=" ++ (s ++ (codes ",i=" ++ (i ++ x)))))
second_whole r s i x = simp append_assoc

second_read : (nonce salt : List ℕ) (rounds : ℕ) (extras : List Extra) → IsNonce 256 nonce → AreOctets 1 64 salt → rounds < 10 ^ 10 → AreExtras extras
    → second_of (codes "r=" ++ (nonce ++ (codes ",s=" ++ (encoded salt ++ (codes ",i=" ++ (decimal rounds ++ extras_text extras)))))) ≡ Ok (record { nonce = nonce; salt = salt; rounds = rounds })
unfolding second_of second_format
second_read nonce salt rounds extras fresh salted short free =
    let more = extras_text extras in
    let last = codes ",i=" ++ (decimal rounds ++ more) in
    let tail = codes ",s=" ++ (encoded salt ++ last) in
    let text = codes "r=" ++ (nonce ++ tail) in
    let spelled : Spelled second_format (nonce ∷ encoded salt ∷ decimal rounds ∷ more ∷ []) text [] = (
      nonce ++ tail,
      refl,
      (
        tail,
        refl,
        takes-nonce 256 nonce tail fresh.each fresh.some fresh.few refl,
        (
          encoded salt ++ last,
          refl,
          (
            last,
            refl,
            takes-base64 1 64 salt last salted.each salted.enough salted.few refl,
            (
              decimal rounds ++ more,
              refl,
              (
                more,
                refl,
                takes-number rounds more short (extras-at extras),
                (
                  [],
                  nothing more,
                  takes-extras extras free,
                  (refl, refl),
                ),
              ),
            ),
          ),
        ),
      ),
    ) in
    rw (values-of second_format text (nonce ∷ encoded salt ∷ decimal rounds ∷ more ∷ []) refl spelled) (rw (decoded-encoded salt salted.each, number-decimal rounds (in_word rounds short)) refl)

pub second-only : (text : List ℕ) (second : Second) → SpellsSecond second text → second_of text ≡ Ok second
second-only text second s =
    ap second_of (s.same ∙ second_whole second.nonce (encoded second.salt) (decimal second.rounds) (extras_text s.extras))
    ∙ second_read second.nonce second.salt second.rounds s.extras s.fresh s.salted s.short s.free

-- ---- the third text

take_front : (xs ys : List ℕ) → take (length xs) (xs ++ ys) ≡ xs
take_front xs ys = grind (arith, common_steps)

third_whole : (b r x p : List ℕ) → codes "c=" ++ b ++ codes ",r=" ++ r ++ x ++ codes ",p=" ++ p ≡ codes "c=" ++ (b ++ (codes ",r=" ++ (r ++ ((x ++ 44 ∷ 112 ∷ []) ++ (codes "=" ++ p)))))
third_whole b r x p = simp append_assoc

-- the text in front of its proof
cut_proof : (text bare p : List ℕ) → text ≡ bare ++ codes ",p=" ++ p → length p ≡ 28 → take (length text - 31) text ≡ bare
cut_proof text bare p e long =
    let tail = codes ",p=" ++ p in
    let parts : text ≡ bare ++ tail = e ∙ append_assoc bare (codes ",p=") p in
    let size : length (bare ++ tail) - 31 ≡ length bare = omega (arith, length-append bare tail, length-append (codes ",p=") p) in
    rw parts (rw size (take_front bare tail))

at_proof : (extras : List Extra) (tail : List ℕ) → AtComma ((extras_text extras ++ 44 ∷ 112 ∷ []) ++ tail)
at_proof [] tail = refl
at_proof (x ∷ xs) tail = refl

third_spelled : (binding nonce proof text : List ℕ) (extras : List Extra) → AreOctets 0 32768 binding → IsNonce 256 nonce → AreOctets 20 20 proof → AreExtras extras
    → text ≡ codes "c=" ++ (encoded binding ++ (codes ",r=" ++ (nonce ++ ((extras_text extras ++ 44 ∷ 112 ∷ []) ++ (codes "=" ++ encoded proof)))))
    → Spelled third_format (encoded binding ∷ nonce ∷ (extras_text extras ++ 44 ∷ 112 ∷ []) ∷ encoded proof ∷ []) text []
unfolding third_format
third_spelled binding nonce proof text extras bound fresh proved free same =
    let more = extras_text extras in
    let last = codes "=" ++ encoded proof in
    let tail = (more ++ 44 ∷ 112 ∷ []) ++ last in (
      encoded binding ++ (codes ",r=" ++ (nonce ++ tail)),
      same,
      (
        codes ",r=" ++ (nonce ++ tail),
        refl,
        takes-base64 0 32768 binding (codes ",r=" ++ (nonce ++ tail)) bound.each bound.enough bound.few refl,
        (
          nonce ++ tail,
          refl,
          (
            tail,
            refl,
            takes-nonce 256 nonce tail fresh.each fresh.some fresh.few (at_proof extras last),
            (
              last,
              refl,
              closed 112 more [] (encoded proof) refl (takes-extras extras free),
              (
                encoded proof,
                refl,
                (
                  [],
                  nothing (encoded proof),
                  takes-base64 20 20 proof [] proved.each proved.enough proved.few tt,
                  (refl, refl),
                ),
              ),
            ),
          ),
        ),
      ),
    )

third_read : (binding nonce proof bare text : List ℕ) (extras : List Extra) → AreOctets 0 32768 binding → IsNonce 256 nonce → AreOctets 20 20 proof → AreExtras extras
    → text ≡ bare ++ codes ",p=" ++ encoded proof
    → text ≡ codes "c=" ++ (encoded binding ++ (codes ",r=" ++ (nonce ++ ((extras_text extras ++ 44 ∷ 112 ∷ []) ++ (codes "=" ++ encoded proof)))))
    → third_of text ≡ Ok (record { binding = binding; nonce = nonce; proof = proof; bare = bare })
unfolding third_of
third_read binding nonce proof bare text extras bound fresh proved free same parts =
    let values = encoded binding ∷ nonce ∷ (extras_text extras ++ 44 ∷ 112 ∷ []) ∷ encoded proof ∷ [] in
    let twenty : length proof ≡ 20 = omega (arith, proved.enough, proved.few) in
    let long : length (encoded proof) ≡ 28 = omega (arith, length-encoded proof, twenty) in
    let plain : is_mandatory text ≡ false = rw parts refl in
    rw (values-of third_format text values plain (third_spelled binding nonce proof text extras bound fresh proved free parts))
    (rw (decoded-encoded binding bound.each, decoded-encoded proof proved.each, cut_proof text bare (encoded proof) same long) refl)

third_joined : (text bare b r x p : List ℕ) → text ≡ bare ++ codes ",p=" ++ p → bare ≡ codes "c=" ++ b ++ codes ",r=" ++ r ++ x → text ≡ codes "c=" ++ b ++ codes ",r=" ++ r ++ x ++ codes ",p=" ++ p
third_joined text bare b r x p e f = e ∙ ap (λ (os : List ℕ). os ++ codes ",p=" ++ p) f

pub third-only : (text : List ℕ) (third : Third) → SpellsThird third text → third_of text ≡ Ok third
third-only text third s =
    let parts = third_joined text third.bare (encoded third.binding) third.nonce (extras_text s.extras) (encoded third.proof) s.same s.bare ∙ third_whole (encoded third.binding) third.nonce (extras_text s.extras) (encoded third.proof) in
    third_read third.binding third.nonce third.proof third.bare text s.extras s.bound s.fresh s.proved s.free s.same parts

-- ---- the final text

final_whole : (s x : List ℕ) → codes "v=" ++ s ++ x ≡ codes "v=" ++ (s ++ x)
final_whole s x = refl

final_read : (signature : List ℕ) (extras : List Extra) → AreOctets 20 20 signature → AreExtras extras → final_of (codes "v=" ++ (encoded signature ++ extras_text extras)) ≡ Ok signature
unfolding final_of signature_format
final_read signature extras signed free =
    let more = extras_text extras in
    let text = codes "v=" ++ (encoded signature ++ more) in
    let spelled : Spelled signature_format (encoded signature ∷ more ∷ []) text [] = (
      encoded signature ++ more,
      refl,
      (
        more,
        refl,
        takes-base64 20 20 signature more signed.each signed.enough signed.few (extras-at extras),
        (
          [],
          nothing more,
          takes-extras extras free,
          (refl, refl),
        ),
      ),
    ) in
    rw (values-of signature_format text (encoded signature ∷ more ∷ []) refl spelled) (rw (decoded-encoded signature signed.each) refl)

pub final-only : (text signature : List ℕ) → SpellsFinal signature text → final_of text ≡ Ok signature
final-only text signature s = ap final_of (s.same ∙ final_whole (encoded signature) (extras_text s.extras)) ∙ final_read signature s.extras s.signed s.free

abbrev peer_error : Result (List ℕ) ScramRefusal
peer_error = Err refusals.PeerError

error_read : (value : List ℕ) (extras : List Extra) → list_all is_value value ≡ true → AreExtras extras → final_of (codes "e=" ++ (value ++ extras_text extras)) ≡ peer_error
unfolding final_of error_format
error_read value extras each free =
    let more = value ++ extras_text extras in
    let text = codes "e=" ++ more in
    let spelled : Spelled error_format (more ∷ []) text [] = (
      more,
      refl,
      (
        [],
        nothing more,
        takes-valued value extras each free,
        (refl, refl),
      ),
    ) in
    rw (values-of error_format text (more ∷ []) refl spelled) refl

error_whole : (v x : List ℕ) → codes "e=" ++ v ++ x ≡ codes "e=" ++ (v ++ x)
error_whole v x = refl

pub error-only : (text : List ℕ) → SpellsError text → final_of text ≡ peer_error
error-only text s = ap final_of (s.same ∙ error_whole s.value (extras_text s.extras)) ∙ error_read s.value s.extras s.each s.free
