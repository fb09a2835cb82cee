-- A text that is read is one of the grammar.
use Rattle.std.proofs.Common.{◌≡◌, ℕ, ◌-◌, Bool, true, false, cond, List, [], ◌∷◌, ◌++◌, length, take, Result, Ok, Err, refl, sym, ap, ◌∙◌, arith, subst, append_assoc, length-append, codes}
use Rattle.std.proofs.lemmas.List.{append-nil}
use Rattle.std.proofs.lemmas.Grind.{common_steps}
use Rattle.scram_mech.specs.declared.refusal.Stuck.{Stuck}
use Rattle.scram_mech.specs.declared.refusal.ScramRefusal.{ScramRefusal}
use Rattle.scram_mech.specs.declared.refusal.ScramRefusal.TheVariants as refusals
use Rattle.scram_mech.specs.declared.name.Escape.TheVariants.{Outside}
use Rattle.scram_mech.specs.Reading.{◌>>=◌, in_text}
use Rattle.scram_mech.specs.Name.{escaped, unescaped}
use Rattle.scram_mech.specs.Digits.{number_of}
use Rattle.scram_mech.specs.Base64.{encoded, decoded}
use Rattle.scram_mech.specs.Formats.{Segment, pieces_of, piece, is_mandatory, values_of}
use Rattle.scram_mech.specs.FirstText.{First, first_of}
use Rattle.scram_mech.specs.SecondText.{Second, second_of}
use Rattle.scram_mech.specs.ThirdText.{Third, third_format, third_of}
use Rattle.scram_mech.specs.FinalText.{signature_format, error_format, begins_as_error, final_of}
use Rattle.scram_mech.specs.Grammar.{extras_text, SpellsFirst, SpellsSecond, SpellsThird, SpellsFinal, SpellsError}
use Rattle.scram_mech.proofs.Pieces.{Spelled, bind_ok, pieces_of-found}
use Rattle.scram_mech.proofs.ExchangeLaws.{given, given_is, values-read}
use Rattle.scram_mech.proofs.Written.{length-encoded}
use Rattle.scram_mech.proofs.OneCut.{FirstSpelled, first-spelled, SecondSpelled, second-spelled, cut}
use Rattle.scram_mech.proofs.Extras.{extras-found, valued-found}
use Rattle.scram_mech.proofs.NameShapes.{name-found}
use Rattle.scram_mech.proofs.ValueGrammar.{nonce-found, octets-found, rounds-found}

-- ---- the first text

first_whole : (n r f : List ℕ) → codes "n=" ++ n ++ codes ",r=" ++ r ++ f ≡ codes "n=" ++ (n ++ (codes ",r=" ++ (r ++ f)))
first_whole n r f = simp append_assoc

first_joined : (text n m r f x : List ℕ) → text ≡ codes "n=" ++ (n ++ (codes ",r=" ++ (r ++ f))) → m ≡ n → f ≡ x → text ≡ codes "n=" ++ m ++ codes ",r=" ++ r ++ x
first_joined text n m r f x e a b = e ∙ sym (rw (a, ← b) (first_whole n r f))

first_by_parts : (text : List ℕ) (first : First) → FirstSpelled text first → SpellsFirst first text
first_by_parts text first f =
    let n = name-found f.name [] (f.takes_name [] tt) in
    let x = extras-found f.further [] f.takes_further in
    let shown : First = record { name = unescaped Outside f.name; nonce = f.nonce } in
    let s : SpellsFirst shown text = record {
      extras = x.extras;
      named = n.0;
      fresh = nonce-found 232 f.nonce [] (f.takes_nonce [] tt);
      free = x.free;
      same = first_joined text f.name (escaped (unescaped Outside f.name)) f.nonce f.further (extras_text x.extras) f.same n.1 x.same;
    } in
    subst (λ (g : First). SpellsFirst g text) (sym f.shows) s

pub first-found : (text : List ℕ) (first : First) → first_of text ≡ given first → SpellsFirst first text
first-found text first e = first_by_parts text first (first-spelled text first e)

-- ---- the second text

second_whole : (r s i f : List ℕ) → codes "r=" ++ r ++ codes ",s=" ++ s ++ codes ",i=" ++ i ++ f ≡ codes "r=" ++ (r ++ (codes ",s=" ++ (s ++ (codes ",i=" ++ (i ++ f)))))
second_whole r s i f = simp append_assoc

second_joined : (text r s t i j f x : List ℕ) → text ≡ codes "r=" ++ (r ++ (codes ",s=" ++ (s ++ (codes ",i=" ++ (i ++ f))))) → t ≡ s → j ≡ i → f ≡ x
    → text ≡ codes "r=" ++ r ++ codes ",s=" ++ t ++ codes ",i=" ++ j ++ x
second_joined text r s t i j f x e a b c = e ∙ sym (rw (a, b, ← c) (second_whole r s i f))

second_by_parts : (text : List ℕ) (second : Second) → SecondSpelled text second → SpellsSecond second text
second_by_parts text second f =
    let s = octets-found 1 64 f.salt [] (f.takes_salt [] tt) in
    let n = rounds-found f.rounds [] (f.takes_rounds [] tt) in
    let x = extras-found f.further [] f.takes_further in
    let shown : Second = record { nonce = f.nonce; salt = decoded f.salt; rounds = number_of f.rounds } in
    let spells : SpellsSecond shown text = record {
      extras = x.extras;
      fresh = nonce-found 256 f.nonce [] (f.takes_nonce [] tt);
      salted = s.0;
      short = n.0;
      free = x.free;
      same = second_joined text f.nonce f.salt (encoded (decoded f.salt)) f.rounds _ f.further (extras_text x.extras) f.same s.1 n.1 x.same;
    } in
    subst (λ (g : Second). SpellsSecond g text) (sym f.shows) spells

pub second-found : (text : List ℕ) (second : Second) → second_of text ≡ given second → SpellsSecond second text
second-found text second e = second_by_parts text second (second-spelled text second e)

-- ---- the third text

ends_here : (value back octets : List ℕ) → octets ≡ value ++ back → back ≡ [] → octets ≡ value
ends_here value back octets e f = e ∙ (ap (λ (b : List ℕ). value ++ b) f ∙ append-nil value)

take_front : (xs ys : List ℕ) → take (length xs) (xs ++ ys) ≡ xs
take_front xs ys = grind (arith, common_steps)

-- the text without its proof, and with it
third_front : (text b r w u p : List ℕ) → text ≡ codes "c=" ++ (b ++ (codes ",r=" ++ (r ++ (u ++ (codes "=" ++ p))))) → u ≡ w ++ 44 ∷ 112 ∷ []
    → text ≡ (codes "c=" ++ (b ++ (codes ",r=" ++ (r ++ w)))) ++ (codes ",p=" ++ p)
third_front text b r w u p e f = e ∙ rw f (simp append_assoc)

bare_front : (text whole p : List ℕ) → text ≡ whole ++ (codes ",p=" ++ p) → length p ≡ 28 → take (length text - 31) text ≡ whole
bare_front text whole p e long =
    let tail = codes ",p=" ++ p in
    let size : length (whole ++ tail) - 31 ≡ length whole = omega (arith, length-append whole tail, length-append (codes ",p=") p) in
    rw e (rw size (take_front whole tail))

bare_whole : (b r f : List ℕ) → codes "c=" ++ b ++ codes ",r=" ++ r ++ f ≡ codes "c=" ++ (b ++ (codes ",r=" ++ (r ++ f)))
bare_whole b r f = simp append_assoc

bare_joined : (bare b c r f x : List ℕ) → bare ≡ codes "c=" ++ (b ++ (codes ",r=" ++ (r ++ f))) → c ≡ b → f ≡ x → bare ≡ codes "c=" ++ c ++ codes ",r=" ++ r ++ x
bare_joined bare b c r f x e a d = e ∙ sym (rw (a, ← d) (bare_whole b r f))

third_joined : (text bare whole p q : List ℕ) → text ≡ whole ++ (codes ",p=" ++ p) → bare ≡ whole → q ≡ p → text ≡ bare ++ codes ",p=" ++ q
third_joined text bare whole p q e a b = e ∙ sym (rw (a, b) (simp append_assoc))

abbrev pub third_shown : List (List ℕ) → List ℕ → Third
third_shown values text = record { binding = decoded (piece values 0); nonce = piece values 1; proof = decoded (piece values 3); bare = take (length text - 31) text }

pub third_values : (values : List (List ℕ)) (text rest : List ℕ) → Spelled third_format values text rest → SpellsThird (third_shown values text) text
unfolding third_format
third_values [] text rest s = absurd s.2
third_values (a ∷ []) text rest s = absurd s.2.3.2
third_values (a ∷ b ∷ []) text rest s = absurd s.2.3.2.3
third_values (a ∷ b ∷ c ∷ []) text rest s = absurd s.2.3.2.3.3.2
third_values (a ∷ b ∷ c ∷ d ∷ others) text rest s =
    let n = s.2 in
    let m = n.3.2 in
    let u = m.3 in
    let p = u.3.2 in
    let proof : u.3.0 ≡ d = ends_here d p.0 u.3.0 p.1 p.3.0 in
    let k = cut 112 c u.0 u.2 in
    let x = extras-found k.front [] k.takes in
    let binding = octets-found 0 32768 a n.0 n.2 in
    let octets = octets-found 20 20 d p.0 p.2 in
    let twenty : length (decoded d) ≡ 20 = omega (arith, octets.0.enough, octets.0.few) in
    let long : length d ≡ 28 = sym (ap length octets.1) ∙ omega (arith, length-encoded (decoded d), twenty) in
    let text_is : text ≡ codes "c=" ++ (a ++ (codes ",r=" ++ (b ++ (c ++ (codes "=" ++ d))))) =
    s.1 ∙ ap (λ (os : List ℕ). codes "c=" ++ os) (n.1 ∙ ap (λ (os : List ℕ). a ++ os) (n.3.1 ∙ ap (λ (os : List ℕ). codes ",r=" ++ os) (m.1 ∙ ap (λ (os : List ℕ). b ++ os) (u.1 ∙ ap (λ (os : List ℕ). c ++ os) (u.3.1 ∙ ap (λ (os : List ℕ). codes "=" ++ os) proof))))) in
    let whole = codes "c=" ++ (a ++ (codes ",r=" ++ (b ++ k.front))) in
    let front : text ≡ whole ++ (codes ",p=" ++ d) = third_front text a b k.front c d text_is k.same in
    let bare : take (length text - 31) text ≡ whole = bare_front text whole d front long in
    record {
      extras = x.extras;
      bound = binding.0;
      fresh = nonce-found 256 b m.0 m.2;
      proved = octets.0;
      free = x.free;
      bare = bare_joined (take (length text - 31) text) a (encoded (decoded a)) b k.front (extras_text x.extras) bare binding.1 x.same;
      same = third_joined text (take (length text - 31) text) whole d (encoded (decoded d)) front bare octets.1;
    }

pub third-found : (text : List ℕ) (third : Third) → third_of text ≡ given third → SpellsThird third text
unfolding third_of
third-found text third e =
    let b = bind_ok (values_of third_format text) _ third e in
    let s = pieces_of-found third_format b.0 text (values-read third_format text b.0 b.1) in
    let spells : SpellsThird (third_shown b.0 text) text = third_values b.0 text s.0 s.1 in
    subst (λ (t : Third). SpellsThird t text) (given_is (third_shown b.0 text) third b.2) spells

-- ---- the final text

abbrev pub by_error : List ℕ → Result (List ℕ) ScramRefusal
by_error text = values_of error_format text >>= (λ values. Err refusals.PeerError)

abbrev pub by_signature : List ℕ → Result (List ℕ) ScramRefusal
by_signature text = values_of signature_format text >>= (λ values. Ok (decoded (piece values 0)))

final_joined : (text s t f x : List ℕ) → text ≡ codes "v=" ++ (s ++ f) → t ≡ s → f ≡ x → text ≡ codes "v=" ++ t ++ x
final_joined text s t f x e a b = e ∙ sym (rw (a, ← b) refl)

pub signature_values : (values : List (List ℕ)) (text rest : List ℕ) → Spelled signature_format values text rest → SpellsFinal (decoded (piece values 0)) text
unfolding signature_format
signature_values [] text rest s = absurd s.2
signature_values (a ∷ []) text rest s = absurd s.2.3
signature_values (a ∷ b ∷ others) text rest s =
    let n = s.2 in
    let m = n.3 in
    let last : n.0 ≡ b = ends_here b m.0 n.0 m.1 m.3.0 in
    let octets = octets-found 20 20 a n.0 n.2 in
    let x = extras-found b m.0 m.2 in
    record {
      extras = x.extras;
      signed = octets.0;
      free = x.free;
      same = final_joined text a (encoded (decoded a)) b (extras_text x.extras) (s.1 ∙ ap (λ (os : List ℕ). codes "v=" ++ os) (n.1 ∙ ap (λ (os : List ℕ). a ++ os) last)) octets.1 x.same;
    }

signature_found : (text signature : List ℕ) → by_signature text ≡ given signature → SpellsFinal signature text
signature_found text signature e =
    let b = bind_ok (values_of signature_format text) (λ values. Ok (decoded (piece values 0))) signature e in
    let s = pieces_of-found signature_format b.0 text (values-read signature_format text b.0 b.1) in
    subst (λ (v : List ℕ). SpellsFinal v text) (given_is (decoded (piece b.0 0)) signature b.2) (signature_values b.0 text s.0 s.1)

no_value : (text signature : List ℕ) → by_error text ≡ given signature → ⊥
no_value text signature e = let b = bind_ok (values_of error_format text) (λ values. Err refusals.PeerError) signature e in refused_given signature b.2
  where
    refused_given : (signature : List ℕ) → Err refusals.PeerError ≡ given signature → ⊥
    refused_given signature f = cc

final_by : (text signature : List ℕ) (b : Bool) → cond b (by_error text) (by_signature text) ≡ given signature → SpellsFinal signature text
final_by text signature true e = absurd (no_value text signature e)
final_by text signature false e = signature_found text signature e

pub final-found : (text signature : List ℕ) → final_of text ≡ given signature → SpellsFinal signature text
unfolding final_of
final-found text signature e = final_by text signature (begins_as_error text) e

-- ---- the text of an error

abbrev pub refused : {A : Type 0} → ScramRefusal → Result A ScramRefusal
refused refusal = Err refusal

pub refusal_is : {A : Type 0} (a b : ScramRefusal) → refused {A = A} a ≡ refused {A = A} b → a ≡ b
refusal_is a b e = cc

text_no_peer : (text : List ℕ) (r : Result (List (List ℕ)) Stuck) → in_text text r ≡ refused refusals.PeerError → ⊥
text_no_peer text (Ok values) e = cc
text_no_peer text (Err stuck) e = cc

no_peer_by : (format : List Segment) (text : List ℕ) (b : Bool) → cond b (refused refusals.Mandatory) (in_text text (pieces_of format text)) ≡ refused refusals.PeerError → ⊥
no_peer_by format text true e = cc
no_peer_by format text false e = text_no_peer text (pieces_of format text) e

-- reading alone never tells of an error at the other end
pub no_peer : (format : List Segment) (text : List ℕ) → values_of format text ≡ refused refusals.PeerError → ⊥
unfolding values_of
no_peer format text e = no_peer_by format text (is_mandatory text) e

pub opened : (r : Result (List (List ℕ)) ScramRefusal) → (r ≡ refused refusals.PeerError → ⊥) → (r >>= (λ values. refused {A = List ℕ} refusals.PeerError)) ≡ refused refusals.PeerError → (values : List (List ℕ)) × (r ≡ Ok values)
opened (Ok values) none e = (values, refl)
opened (Err d) none e = absurd (none (ap (λ (x : ScramRefusal). refused {A = List (List ℕ)} x) (refusal_is {A = List ℕ} d refusals.PeerError e)))

shut : (r : Result (List (List ℕ)) ScramRefusal) → (r ≡ refused refusals.PeerError → ⊥) → (r >>= (λ values. given (decoded (piece values 0)))) ≡ refused refusals.PeerError → ⊥
shut (Ok values) none e = cc
shut (Err d) none e = none (ap (λ (x : ScramRefusal). refused {A = List (List ℕ)} x) (refusal_is {A = List ℕ} d refusals.PeerError e))

error_joined : (text e v x : List ℕ) → text ≡ codes "e=" ++ e → e ≡ v ++ x → text ≡ codes "e=" ++ v ++ x
error_joined text e v x a b = a ∙ rw b (simp append_assoc)

pub error_values : (values : List (List ℕ)) (text rest : List ℕ) → Spelled error_format values text rest → SpellsError text
unfolding error_format
error_values [] text rest s = absurd s.2
error_values (a ∷ others) text rest s =
    let n = s.2 in
    let last : s.0 ≡ a = ends_here a n.0 s.0 n.1 n.3.0 in
    let v = valued-found a n.0 n.2 in
    record { value = v.value; extras = v.extras; each = v.each; free = v.free; same = error_joined text a v.value (extras_text v.extras) (s.1 ∙ ap (λ (os : List ℕ). codes "e=" ++ os) last) v.same }

error_by : (text : List ℕ) (b : Bool) → cond b (by_error text) (by_signature text) ≡ refused refusals.PeerError → SpellsError text
error_by text true e =
    let b = opened (values_of error_format text) (no_peer error_format text) e in
    let s = pieces_of-found error_format b.0 text (values-read error_format text b.0 b.1) in
    error_values b.0 text s.0 s.1
error_by text false e = absurd (shut (values_of signature_format text) (no_peer signature_format text) e)

pub error-found : (text : List ℕ) → final_of text ≡ Err refusals.PeerError → SpellsError text
unfolding final_of
error-found text e = error_by text (begins_as_error text) e
