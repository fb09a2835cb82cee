-- The words of a command line. An option is a name that begins with `-`, and a value behind it that
-- doesn't. The other words are plain.
use Rattle.std.specs.Prelude.{ℕ, Bool, true, false, ◌&&◌, not, nat_eq, List, [], ◌∷◌, Option, Some}
use Rattle.std.specs.Prelude.{None, if◌then◌else◌, map}
use denote.Ref.{Bor}
use lib.Pointwise.{pointwise}

-- the word begins with `-`
abbrev pub is_dashed : List ℕ → Bool
is_dashed [] = false
is_dashed (octet ∷ octets) = nat_eq octet 45

-- the word is one of these
abbrev pub is_one_of : List ℕ → List (List ℕ) → Bool
is_one_of word [] = false
is_one_of word (one ∷ words) = if pointwise nat_eq one word then true else is_one_of word words

-- the texts that are lent
abbrev pub texts : List (Bor (List ℕ)) → List (List ℕ)
texts names = map (λ name. name.now) names

-- a value stands first
abbrev pub has_value : List (List ℕ) → Bool
has_value [] = false
has_value (word ∷ words) = not (is_dashed word)

-- a name that doesn't come again, with its value behind it
abbrev pub is_option : List (List ℕ) → List ℕ → List (List ℕ) → Bool
is_option names word behind =
    is_one_of word names && (has_value behind && not (is_one_of word behind))

-- the word may stand before these: it doesn't begin with `-`, or is an option
abbrev pub may_stand : List (List ℕ) → List ℕ → List (List ℕ) → Bool
may_stand names word behind = if is_dashed word then is_option names word behind else true

-- each word that begins with `-` is one of the names, has a value behind it, and stands there once
abbrev pub are_words : List (List ℕ) → List (List ℕ) → Bool
are_words names [] = true
are_words names (word ∷ words) =
    (if is_dashed word then is_option names word words else true) && are_words names words

-- the word behind the first that is the name, where `due` says that the name stands before
abbrev pub value_from : List ℕ → Bool → List (List ℕ) → Option (List ℕ)
value_from name due [] = None
value_from name due (word ∷ words) =
    if due then Some word else value_from name (pointwise nat_eq word name) words

-- the value of the option of this name: the word behind the first that is the name
abbrev pub value_of : List ℕ → List (List ℕ) → Option (List ℕ)
value_of name words = value_from name false words

-- the first word, if it doesn't begin with `-`
abbrev pub first_word : List (List ℕ) → Option (List ℕ)
first_word [] = None
first_word (word ∷ words) = if is_dashed word then None else Some word

-- the plain words, where `behind` says that the word before begins with `-`
abbrev pub plain_from : Bool → List (List ℕ) → List (List ℕ)
plain_from behind [] = []
plain_from behind (word ∷ words) =
    if not behind && not (is_dashed word) then word ∷ plain_from (is_dashed word) words
    else plain_from (is_dashed word) words

-- the words that neither begin with `-` nor stand behind one that does
abbrev pub plain_of : List (List ℕ) → List (List ℕ)
plain_of words = plain_from false words
