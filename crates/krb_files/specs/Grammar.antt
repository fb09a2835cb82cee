-- Grammars: which octets spell a value. A grammar speaks of octets alone, of no places and no
-- refusals.
use Rattle.std.specs.Prelude.{◌≡◌, ℕ, zero, suc, pos, true, List, [], ◌∷◌, ◌++◌, length, Option}
use Rattle.std.specs.Prelude.{option_and_then, is_some, Result, Ok, IfOk, MatchResult}
use Rattle.std.specs.Str.{is_utf8}
use Rattle.gss_base.specs.Name.{Name}
use Rattle.gss_base.specs.Principal.{name_of}
use Rattle.krb_derive.specs.declared.key.Etype.{Etype}
use Rattle.krb_derive.specs.declared.key.Key.{Key}
use Rattle.krb_derive.specs.Key.{etype_of, key_of}
use Rattle.krb_files.specs.declared.refusal.FileRefusal.{FileRefusal}
use Rattle.krb_files.specs.declared.refusal.FileWhy.TheVariants.{NoMemory}
use Rattle.krb_files.specs.declared.pieces.Next.{Next}
use Rattle.krb_files.specs.declared.pieces.Next.TheVariants.{End, Other, Item}
use Rattle.krb_files.specs.Fields.{number_of}
use Rattle.krb_files.specs.Names.{are_texts}

-- one value in front, then another, whose grammar may hang on the first
pub record Then {A B : Type 0} (first : A → List ℕ → Type 0) (second : A → B → List ℕ → Type 0)
    (b : B) (octets : List ℕ) : Type 0 where
  pub value : A
  pub front : List ℕ
  pub back : List ℕ
  pub begins : first value front
  pub goes_on : second value b back
  pub same : octets ≡ front ++ back

-- no octets, and this value
pub record Gives {A : Type 0} (given v : A) (octets : List ℕ) : Type 0 where
  pub value : v ≡ given
  pub none : octets ≡ []

-- so many octets, which are the value
pub record Plain (size : ℕ) (value octets : List ℕ) : Type 0 where
  pub sized : length octets ≡ size
  pub same : value ≡ octets

-- a number in so many octets
pub record Number (size number : ℕ) (octets : List ℕ) : Type 0 where
  pub sized : length octets ≡ size
  pub same : number ≡ number_of octets

-- octets behind their number, which has so many octets itself
abbrev pub Counted : ℕ → List ℕ → List ℕ → Type 0
Counted size = Then (Number size) Plain

-- so many octets, whichever they are
pub record Passed (size : ℕ) (u : Unit {0}) (octets : List ℕ) : Type 0 where
  pub sized : length octets ≡ size

-- so many texts in a row
abbrev pub Texts : ℕ → ℕ → List (List ℕ) → List ℕ → Type 0
Texts size zero = Gives []
Texts size (suc count) =
    Then (Counted size) (λ part. Then (Texts size count) (λ parts. Gives (part ∷ parts)))

-- the principal of a realm and its components, which are UTF-8
pub record Named (realm : List ℕ) (parts : List (List ℕ)) (name : Name) (octets : List ℕ) : Type 0
  where
    pub realm_text : is_utf8 realm ≡ true
    pub part_texts : are_texts parts ≡ true
    pub named : name_of realm parts ≡ Ok name
    pub none : octets ≡ []

-- a principal: the count of its components, the realm, the components
abbrev pub Principal : ℕ → Name → List ℕ → Type 0
Principal size = Then (Number size)
    (λ count. Then (Counted size) (λ realm. Then (Texts size count) (λ parts. Named realm parts)))

-- the key of a known type, which has the type's length, and none of another type
pub record IsKey (etype : Option Etype) (bytes : List ℕ) (key : Option Key) (octets : List ℕ) : Type
    0 where
  pub value : key ≡ option_and_then (λ known. key_of known bytes) etype
  pub known : is_some key ≡ is_some etype
  pub none : octets ≡ []

-- a key: the number of its type, its octets behind their number
abbrev pub KeyField : ℕ → Option Key → List ℕ → Type 0
KeyField size =
    Then (Number 2) (λ number. Then (Counted size) (λ bytes. IsKey (etype_of (pos number)) bytes))

-- pieces in a row
abbrev pub Row : {A : Type 0} → (Next A → List ℕ → Type 0) → List (Next A) → List ℕ → Type 0
Row piece [] octets = octets ≡ []
Row piece (next ∷ others) octets = (front : List ℕ) × (back : List ℕ) × piece next front
    × Row piece others back × (octets ≡ front ++ back)

-- the values among pieces
abbrev pub items : {A : Type 0} → List (Next A) → List A
items [] = []
items (End ∷ others) = items others
items (Other ∷ others) = items others
items (Item value ∷ others) = value ∷ items others

-- the values among the pieces in front of an end
pub record Body {A : Type 0} (piece : Next A → List ℕ → Type 0) (end : List ℕ → Type 0)
    (values : List A) (octets : List ℕ) : Type 0 where
  pub pieces : List (Next A)
  pub front : List ℕ
  pub back : List ℕ
  pub row : Row piece pieces front
  pub ends : end back
  pub same : octets ≡ front ++ back
  pub kept : values ≡ items pieces

-- a value is answered exactly where the octets spell it, want of memory aside
pub record ReadsWhole {A B : Type 0} (view : A → B) (grammar : B → List ℕ → Type 0)
    (octets : List ℕ) (result : Result A FileRefusal) : Type 0 where
  pub found : IfOk result (λ x. grammar (view x) octets)
  pub only : (v : B) → grammar v octets
      → MatchResult result (λ x. view x ≡ v) (λ e. e.why ≡ NoMemory)
