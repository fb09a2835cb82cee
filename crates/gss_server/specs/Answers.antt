-- What the answer to one record says.
use Rattle.std.specs.Prelude.{◌≡◌, ◌≢◌, ◌≤◌, ◌<◌, ◌==◌, ◌&&◌, ◌||◌, Bool, true, false, ℕ, length}
use Rattle.std.specs.Prelude.{is_some, Option, Some, None, []}
use Rattle.accept_book.specs.RecordShown.{Ruling, Question, Negotiate, Look, Admit, End}
use Rattle.accept_book.specs.Rules.{rule_number}
use Rattle.accept_book.specs.declared.rule.Rule.TheVariants as rules
use Rattle.gss_server.specs.declared.answer.Reply.{Reply}
use Rattle.gss_server.specs.declared.answer.Reply.TheVariants.{Silent, Bytes, Gone, NoMemory}
use Rattle.gss_server.specs.declared.saying.Said.{Said}

-- a rule decides, and no question is due
abbrev pub IsDecided : Ruling → Type 0
IsDecided ruling = 0 < ruling.rule

-- the number of a rule by which the connection goes on
abbrev pub IsOther : ℕ → Type 0
IsOther rule = rule ≢ rule_number rules.Lost

-- such a rule decides
abbrev pub GoesOn : Ruling → Type 0
GoesOn ruling = IsDecided ruling × IsOther ruling.rule

-- the call was admitted, and what became of it isn't known: its connection ends
abbrev pub IsLost : Ruling → Type 0
IsLost ruling = ruling.rule ≡ rule_number rules.Lost

-- nothing is due, or an admission: a body is opened before its call is admitted, and that takes
-- memory
abbrev pub may_wait : Option Question → Bool
may_wait None = true
may_wait (Some (Negotiate id token now draws)) = false
may_wait (Some (Look id now)) = false
may_wait (Some (Admit lease seq service procedure args)) = true
may_wait (Some (End lease seq)) = false

-- memory may be wanted: for the reply that is due, for a body whose call is to be admitted, or in
-- the step of a creation
abbrev pub may_want : Ruling → Bool
may_want ruling = is_some ruling.reply || (ruling.rule == 0 && may_wait ruling.due)

-- the rule and the reply are the ruling's, unless memory was wanted where it may be
abbrev pub Says : Reply → ℕ → Ruling → Type 0
Says Silent rule ruling = (rule ≡ ruling.rule) × (ruling.reply ≡ None) × GoesOn ruling
Says (Bytes octets) rule ruling = (rule ≡ ruling.rule) × (ruling.reply ≡ Some octets)
    × GoesOn ruling
Says Gone rule ruling = (rule ≡ ruling.rule) × (ruling.reply ≡ None) × IsLost ruling
Says NoMemory rule ruling = (rule ≡ 0) × (may_want ruling ≡ true)

-- the same of the reply alone
abbrev pub IsReply : Ruling → Reply → Type 0
IsReply ruling Silent = (ruling.reply ≡ None) × GoesOn ruling
IsReply ruling (Bytes octets) = (ruling.reply ≡ Some octets) × GoesOn ruling
IsReply ruling Gone = (ruling.reply ≡ None) × IsLost ruling
IsReply ruling NoMemory = may_want ruling ≡ true

-- a reply fits into a record
abbrev pub Fits : Reply → Type 0
Fits Silent = Unit {0}
Fits (Bytes octets) = length octets ≤ 131072
Fits Gone = Unit {0}
Fits NoMemory = Unit {0}

-- what is said is what the ruling says, unless memory was wanted where it may be, and fits into a
-- record; the ruling asked nothing
pub record IsSaid (said : Said) (ruling : Ruling) : Type 0 where
  pub says : Says said.reply said.rule ruling
  pub unasked : ruling.asked ≡ []
  pub fits : Fits said.reply
