-- The list of mechanisms among the words of the client: the words between its commas, the mechanism
-- that each of them names, and the list without these words.
use Rattle.std.specs.Prelude.{ℕ, ◌==◌, Bool, true, false, List, [], ◌∷◌, map}
use Rattle.std.specs.Prelude.{Option, Some, None, Result, Ok, Err}
use Rattle.std.specs.List.{slice_split, list_all}
use Rattle.gss_base.specs.declared.mech.KerberosName.TheVariants.{Standard}
use Rattle.gss_base.specs.declared.mech.MechName.{MechName}
use Rattle.gss_base.specs.declared.mech.MechName.TheVariants as names
use Rattle.gss_base.specs.Mech.{oid_named}
use Rattle.spnego_core.specs.Choice.{are_few}
use Rattle.cli_base.specs.Given.{◌>>=◌, demanded}
use Rattle.cli_base.specs.declared.given.WordsRefusal.{WordsRefusal}
use Rattle.cli_base.specs.declared.given.WordsRefusal.TheVariants.{Usage}
use Rattle.mech_words.specs.Names.{mech_named}

-- ---- the list by its words

-- the words between the commas of a text
abbrev pub words_in : List ℕ → List (List ℕ)
words_in text = slice_split (λ octet. octet == 44) text

-- the mechanism of each word, in their order
abbrev pub mechs_named : List (List ℕ) → Result (List MechName) WordsRefusal
mechs_named [] = Ok []
mechs_named (word ∷ words) =
    mech_named word >>= λ name. mechs_named words >>= λ list. Ok (name ∷ list)

-- one to three names, no two of which are alike
abbrev pub is_list : List MechName → Bool
is_list list = are_few (map oid_named list)

-- the mechanisms of a text, the preferred one first
unfoldable pub mechs_by : List ℕ → Result (List MechName) WordsRefusal
mechs_by text = do
  list ← mechs_named (words_in text)
  few ← demanded (is_list list)
  Ok list

-- ---- their options

-- a mechanism has its two options, whichever name it has; which of the two have theirs is said
-- before
abbrev pub is_equipped : Bool → Bool → MechName → Bool
is_equipped krb5 scram (names.Kerberos name) = krb5
is_equipped krb5 scram names.Scram = scram

-- each that is listed has its two options
abbrev pub are_equipped : Bool → Bool → List MechName → Bool
are_equipped krb5 scram list = list_all (is_equipped krb5 scram) list

-- each mechanism of a list by its text has its options, or the words are refused
unfoldable pub equipped : Bool → Bool → List ℕ → Result (List MechName) WordsRefusal
equipped krb5 scram text = do
  list ← mechs_by text
  options ← demanded (are_equipped krb5 scram list)
  Ok list

-- without a list, those that have their two options, Kerberos first and under its own name; there
-- is one
abbrev pub usual : Bool → Bool → Result (List MechName) WordsRefusal
usual true true = Ok (names.Kerberos Standard ∷ names.Scram ∷ [])
usual true false = Ok (names.Kerberos Standard ∷ [])
usual false true = Ok (names.Scram ∷ [])
usual false false = Err Usage

-- the mechanisms by the option, or the usual ones without it
abbrev pub mechs_given : Bool → Bool → Option (List ℕ) → Result (List MechName) WordsRefusal
mechs_given krb5 scram None = usual krb5 scram
mechs_given krb5 scram (Some text) = equipped krb5 scram text
