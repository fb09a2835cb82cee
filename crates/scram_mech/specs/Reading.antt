-- Reading from the front: a value and what is left behind it, or how many octets were left where no
-- text of the grammar goes on.
use Rattle.std.specs.Prelude.{◌≡◌, ◌≢◌, ℕ, ◌-◌, ◌==◌, if◌then◌else◌, List, [], ◌∷◌, length, Result}
use Rattle.std.specs.Prelude.{Ok, Err}
use Rattle.scram_mech.specs.declared.refusal.Stuck.{Stuck}
use Rattle.scram_mech.specs.declared.refusal.ScramRefusal.{ScramRefusal}
use Rattle.scram_mech.specs.declared.refusal.ScramRefusal.TheVariants as refusals

-- a reading ended where no text of the grammar goes on, and these octets were left
abbrev pub stuck_at : {A : Type 0} → List ℕ → Result A Stuck
stuck_at rest = Err (record { left = length rest })

-- the rest of a reading, unless the part before was refused
infixl 10 ◌>>=◌
abbrev pub ◌>>=◌ : {A B E : Type 0} → Result A E → (A → Result B E) → Result B E
(Ok x) >>= next = next x
(Err e) >>= next = Err e

-- the place in a text at which a reading of it was stuck
abbrev pub text_refusal : List ℕ → Stuck → ScramRefusal
text_refusal text stuck = refusals.Text (length text - stuck.left)

-- the answer of a reading of this text: the refusal says the place at which it was stuck
abbrev pub in_text : {A : Type 0} → List ℕ → Result A Stuck → Result A ScramRefusal
in_text text (Ok x) = Ok x
in_text text (Err stuck) = Err (text_refusal text stuck)

-- the octets begin with this word
unfoldable pub word_at : List ℕ → List ℕ → Result (Unit {0} × List ℕ) Stuck
word_at [] octets = Ok (tt, octets)
word_at (sign ∷ word) [] = stuck_at []
word_at (sign ∷ word) (octet ∷ octets) =
    if octet == sign then word_at word octets else stuck_at (octet ∷ octets)

-- nothing is left
abbrev pub end_at : List ℕ → Result (Unit {0} × List ℕ) Stuck
end_at [] = Ok (tt, [])
end_at (octet ∷ octets) = stuck_at (octet ∷ octets)

-- the answer of a reading at the front, and what it leaves
abbrev pub Reads : {A B E : Type 0} → (A → B) → List ℕ → Result A E → Result (B × List ℕ) E → Type 0
Reads view left (Ok x) read = read ≡ Ok (view x, left)
Reads view left (Err e) read = read ≡ Err e

-- the answer of a reading of all that there is
abbrev pub Answers : {A B E : Type 0} → (A → B) → Result A E → Result B E → Type 0
Answers view (Ok x) answer = answer ≡ Ok (view x)
Answers view (Err e) answer = answer ≡ Err e

-- the answer of a reading at the front, and what it leaves, want of memory aside: `free` is the
-- refusal that stands for it
abbrev pub MayRead : {A B E : Type 0} → E → (A → B) → List ℕ → Result A E → Result (B × List ℕ) E
    → Type 0
MayRead free view left (Ok x) read = read ≡ Ok (view x, left)
MayRead free view left (Err e) read = e ≢ free → read ≡ Err e

-- an answer, seen by a function of its value
abbrev pub seen : {A B E : Type 0} → (A → B) → Result A E → Result B E
seen view (Ok x) = Ok (view x)
seen view (Err e) = Err e
