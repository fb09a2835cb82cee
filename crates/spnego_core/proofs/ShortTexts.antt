-- SCRAM's first token is short.
use Rattle.std.proofs.Common.{◌≡◌, ℕ, ◌+◌, ◌*◌, ◌≤◌, ◌==◌, List, [], ◌∷◌, ◌++◌, codes, length, Option, Result, Ok, Err, subst, inl, inr, arith, length-append, drop}
use Rattle.std.proofs.lemmas.List.{length-take-le, length-drop}
use Rattle.std.proofs.lemmas.Bool.{cases_Bool}
use Rattle.gss_base.specs.declared.mech.MechKind.TheVariants.{Scram}
use Rattle.gss_base.specs.Mech.{oid_of}
use Rattle.der_core.specs.Frame.{framed}
use Rattle.ap_exchange.specs.Draws.{drawn_nonce}
use Rattle.scram_mech.specs.declared.refusal.ScramRefusal.{ScramRefusal}
use Rattle.scram_mech.specs.declared.run.Class.TheVariants.{Printable}
use Rattle.scram_mech.specs.Reading.{◌>>=◌}
use Rattle.scram_mech.specs.Base64.{encoded}
use Rattle.scram_mech.specs.Name.{escape_of, escaped}
use Rattle.scram_mech.specs.FirstText.{first_text}
use Rattle.scram_mech.specs.Judging.{judged}
use Rattle.scram_mech.specs.Initiator.{InitStarted, init_started}
use Rattle.scram_mech.proofs.Written.{length-encoded}
use Rattle.spnego_core.specs.Sizes.{FitsBeside}
use Rattle.spnego_core.proofs.Sizes.{Within, more, both, element_within, oid_within}

escape-length : (octet : ℕ) → length (escape_of octet) ≤ 3
escape-length octet =
    elim (cases_Bool (octet == 44)) [
      | inl comma ↦ rw comma (omega arith)
      | inr other ↦ elim (cases_Bool (octet == 61)) [ inl equals ↦ rw (other, equals) (omega arith) | inr plain ↦ rw (other, plain) (omega arith) ]
    ]

escaped-length : (name : List ℕ) → length (escaped name) ≤ 3 * length name
unfolding escaped
escaped-length [] = omega arith
escaped-length (octet ∷ name) = omega (arith, length-append (escape_of octet) (escaped name), escape-length octet, escaped-length name)

first-length : (name nonce : List ℕ) → length (first_text name nonce) ≡ 5 + length (escaped name) + length nonce
unfolding first_text
first-length name nonce =
    omega (arith, length-append (escaped name ++ codes ",r=") nonce, length-append (escaped name) (codes ",r="))

first_within : (user draw : List ℕ) → length user ≤ 255 → length draw ≡ 18 → Within (framed.spell (oid_of Scram, first_text user (encoded draw))) 900
unfolding framed
first_within user draw few drawn =
    more 900 (omega arith) (element_within 0x60 (both (oid_within (oid_of Scram) nine) inner))
  where
    nine : Within (oid_of Scram) 9
    nine = record { most = omega arith }

    inner : Within (first_text user (encoded draw)) 794
    inner = record { most = omega (arith, first-length user (encoded draw), escaped-length user, length-encoded draw, drawn, few) }

pub nonce_length : (draws : List ℕ) → length draws ≡ 66 → length (drawn_nonce draws) ≡ 18
nonce_length draws long = length-take-le 18 (drop 48 draws) (omega (arith, length-drop 48 draws))

by_judgements : (a b : Result (Unit {0}) ScramRefusal) (own started : InitStarted) → (a >>= (λ named. b >>= (λ opened. Ok own))) ≡ Ok started → own ≡ started
by_judgements (Ok x) (Ok y) own started e = cc
by_judgements (Ok x) (Err refusal) own started e = cc
by_judgements (Err refusal) b own started e = cc

pub started_short : (user password draw : List ℕ) (bindings : Option (List ℕ)) (started : InitStarted) → length user ≤ 255 → length draw ≡ 18 → init_started user password draw bindings ≡ Ok started → FitsBeside started.token
unfolding init_started
started_short user password draw bindings started few drawn e =
    let same = by_judgements (judged Printable 255 user) (judged Printable 1024 password) _ started e in
    subst (λ (s : InitStarted). FitsBeside s.token) same (omega (arith, (first_within user draw few drawn).most))
