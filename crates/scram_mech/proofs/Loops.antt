-- Steps of loops over octets.
use Rattle.std.proofs.Common.{◌≡◌, ℕ, ◌+◌, ◌<◌, Bool, true, false, cond, eqb, get_or, List, [], ◌∷◌, ◌++◌, length, drop, refl, arith, add-one, append_assoc}
use Rattle.std.proofs.Math.Seq.{drop-cons}
use Rattle.scram_mech.specs.declared.name.Escape.{Escape}
use Rattle.scram_mech.specs.declared.name.Escape.TheVariants.{Outside, Begun, Comma, Equals}
use Rattle.scram_mech.specs.Name.{unescaped, given, behind, escaped, escape_of}
use Rattle.scram_mech.specs.Reading.{word_at, stuck_at}

-- a word that isn't read whole is stuck at the end
pub word-stuck : (word octets : List ℕ) (i : ℕ) → i < length word → length octets < 1 → word_at (drop i word) octets ≡ stuck_at octets
unfolding word_at
word-stuck word [] i lt short = rw (drop-cons word i 0) refl
word-stuck word (x ∷ xs) i lt short = absurd (omega arith)

outside_octet : (b : Bool) (octet : ℕ) (os : List ℕ) → cond b (unescaped Begun os) (octet ∷ unescaped Outside os) ≡ cond b [] (octet ∷ []) ++ unescaped (cond b Begun Outside) os
outside_octet true octet os = refl
outside_octet false octet os = refl

unescaped_octet : (escape : Escape) (octet : ℕ) (os : List ℕ) → unescaped escape (octet ∷ os) ≡ given escape octet ++ unescaped (behind escape octet) os
unfolding unescaped
unescaped_octet Outside octet os = outside_octet (eqb octet 61) octet os
unescaped_octet Begun octet os = refl
unescaped_octet Comma octet os = refl
unescaped_octet Equals octet os = refl

-- an octet more of a text gives what it gives of the name
pub read_more : (escape after : Escape) (name more extra os all : List ℕ) (i octet : ℕ) → i < length os → octet ≡ get_or os i 0 → extra ≡ given escape octet → after ≡ behind escape octet → more ≡ name ++ extra → name ++ unescaped escape (drop i os) ≡ all
    → more ++ unescaped after (drop (i + 1) os) ≡ all
read_more escape after name more extra os all i octet lt is gives leads push before =
    rw (push, gives, leads, is, add-one, append_assoc) (rw (drop-cons os i 0, unescaped_octet) at before)

-- an octet more of a name gives what stands for it in a text
pub write_more : (text more os all : List ℕ) (i octet : ℕ) → i < length os → octet ≡ get_or os i 0 → more ≡ text ++ escape_of octet → text ++ escaped (drop i os) ≡ all
    → more ++ escaped (drop (i + 1) os) ≡ all
unfolding escaped
write_more text more os all i octet lt is push before = rw (push, is, add-one, append_assoc) (rw (drop-cons os i 0) at before)
