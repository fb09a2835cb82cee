-- Each token that is answered has at most 65,536 octets, so that it fits into a call or a reply.
use Rattle.std.specs.Prelude.{ℕ, ◌≤◌, List, length}
use Rattle.spnego_core.specs.declared.accept_mech.AcceptAnswer.{AcceptAnswer}
use Rattle.spnego_core.specs.declared.accept_mech.AcceptAnswer.TheVariants as tellings
use Rattle.spnego_core.specs.declared.accept_end.Answered.{Answered}
use Rattle.spnego_core.specs.declared.accept_end.Answered.TheVariants as afters
use Rattle.spnego_core.specs.declared.accept_end.AcceptStep.{AcceptStep}
use Rattle.spnego_core.specs.declared.accept_end.AcceptStep.TheVariants as steps

-- the token has at most 65,536 octets
abbrev pub IsShort : List ℕ → Type 0
IsShort token = length token ≤ 65536

-- the token of an acceptor's step is short once nothing is to be asked
abbrev pub ShortAnswered : Answered → Type 0
ShortAnswered (afters.More end token) = IsShort token
ShortAnswered (afters.Done outcome lasts token) = IsShort token

-- the token of an acceptor's step; where it pauses, that of the step that goes on
abbrev pub ShortAccept : AcceptStep → Type 0
ShortAccept (steps.More end token) = IsShort token
ShortAccept (steps.Done outcome lasts token) = IsShort token
ShortAccept (steps.WantsAuth pause) = ShortAnswered pause.after

-- a mechanism's own token leaves room for the negotiation's
abbrev pub FitsBeside : List ℕ → Type 0
FitsBeside token = length token ≤ 61040

-- a MIC token
abbrev pub IsMicSized : List ℕ → Type 0
IsMicSized mic = length mic ≤ 28

-- a mechanism's token at the acceptor leaves that room
abbrev pub ShortTold : AcceptAnswer → Type 0
ShortTold (tellings.More mech token) = FitsBeside token
ShortTold (tellings.Done outcome lasts token) = FitsBeside token
ShortTold (tellings.Pauses mark outcome lasts token) = FitsBeside token
