-- What the client prints: the context, then each result.
use Rattle.std.specs.Prelude.{ℕ, List, [], ◌∷◌, ◌++◌, codes, Option, Some, None, Result, Ok, Err}
use Rattle.std.specs.Fmt.{decimal}
use Rattle.gss_base.specs.declared.mech.MechKind.{MechKind}
use Rattle.gss_base.specs.declared.mech.MechKind.TheVariants as kinds
use Rattle.hex.specs.Hex.{encode_lower}
use Rattle.rpc_msgs.specs.Xdr.{Input, whole, word_at}
use Rattle.rpc_msgs.specs.declared.xdr_reader.XdrRefusal.{XdrRefusal}
use Rattle.spnego_core.specs.declared.outcome.Outcome.{Outcome}
use Rattle.rpc_msgs.specs.Opaque.{opaque_alone}
use Rattle.posts_client.specs.declared.procedure.Procedure.{Procedure}
use Rattle.posts_client.specs.declared.procedure.Procedure.TheVariants.{Null, Echo, Whoami, Post}
use Rattle.posts_client.specs.declared.procedure.Procedure.TheVariants.{Count}
use Rattle.client_options.specs.declared.command.Command.{Command}
use Rattle.client_options.specs.declared.command.Command.TheVariants.{Served, Numbered}

-- the mechanism, as the line of a context names it
abbrev pub mech_word : MechKind → List ℕ
mech_word kinds.Kerberos = codes "krb5"
mech_word kinds.Scram = codes "scram"

-- `-` for an empty name
abbrev pub name_word : List ℕ → List ℕ
name_word [] = codes "-"
name_word (octet ∷ octets) = octet ∷ octets

-- `MECH INITIATOR ACCEPTOR`
abbrev pub outcome_line : Outcome → List ℕ
outcome_line outcome =
    mech_word outcome.mech ++ (codes " "
    ++ (name_word outcome.initiator ++ (codes " " ++ (name_word outcome.acceptor ++ codes "\n"))))

-- the line of a context, where there was one
abbrev pub context_line : Option Outcome → List ℕ
context_line None = []
context_line (Some outcome) = outcome_line outcome

-- octets in lower-case hexadecimal
abbrev pub octets_line : List ℕ → List ℕ
octets_line octets = encode_lower octets ++ codes "\n"

-- the same of octets that were read
abbrev pub hex_line : Result (List ℕ) XdrRefusal → List ℕ
hex_line (Ok octets) = octets_line octets
hex_line (Err refusal) = []

-- a text as it is
abbrev pub text_line : Result (List ℕ) XdrRefusal → List ℕ
text_line (Ok text) = text ++ codes "\n"
text_line (Err refusal) = []

-- a number in decimal
abbrev pub number_line : Result (ℕ × Input) XdrRefusal → List ℕ
number_line (Ok read) = decimal read.0 ++ codes "\n"
number_line (Err refusal) = []

-- a result of this served procedure; octets that are none have no line
abbrev pub served_line : Procedure → List ℕ → List ℕ
served_line Null octets = codes "ok\n"
served_line Echo octets = hex_line (opaque_alone 65536 octets)
served_line Whoami octets = text_line (opaque_alone 1024 octets)
served_line Post octets = number_line (word_at (whole octets))
served_line Count octets = number_line (word_at (whole octets))

-- a result of what was called: of a procedure by its number all octets, an empty line where there
-- are none
abbrev pub result_line : Command → List ℕ → List ℕ
result_line (Served procedure) octets = served_line procedure octets
result_line (Numbered number) octets = octets_line octets

-- the lines of all results, in order
abbrev pub result_lines : Command → List (List ℕ) → List ℕ
result_lines command [] = []
result_lines command (octets ∷ results) =
    result_line command octets ++ result_lines command results

-- what is printed of a session with this outcome and these results
abbrev pub lines : Command → Option Outcome → List (List ℕ) → List ℕ
lines command outcome results = context_line outcome ++ result_lines command results
