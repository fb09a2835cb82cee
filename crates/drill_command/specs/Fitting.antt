-- The facts of a drill's two ends fit.
use Rattle.std.specs.Prelude.{◌≡◌, ℕ, ◌<◌, List, length}
use Rattle.std.specs.List.{AllByRecursion}
use Rattle.base64.specs.GeneralPurpose.{IsBytes}
use Rattle.gss_base.specs.declared.mech.MechKind.{MechKind}
use Rattle.gss_base.specs.declared.mech.MechKind.TheVariants as kinds
use Rattle.spnego_core.specs.Ends.{PlainSetup}
use Rattle.spnego_core.specs.Exchange.{Occasion}
use Rattle.pair_laws.specs.Meeting.{Meets}
use Rattle.drill_plan.specs.Sessions.{moment_of, kind_of}
use Rattle.drill_plan.specs.Setting.{drill_acceptor}

-- what the server is given with a token in a session: the session's moment, and 66 drawn octets
pub record IsGiven (number : ℕ) (occasion : Occasion) : Type 0 where
  pub now : occasion.now ≡ moment_of number
  pub drawn : length occasion.drawn ≡ 66
  pub octets : IsBytes occasion.drawn

-- how many tokens the client sends: one by Kerberos; by SCRAM two, and the MIC of its list, since
-- the server would rather have Kerberos (RFC 4178, 5)
abbrev pub tokens_for : MechKind → ℕ
tokens_for kinds.Kerberos = 1
tokens_for kinds.Scram = 3

-- in each session of the ticket's day, with an occasion for each token, what the client is begun
-- with meets the server: the ticket opens to its part, under the name and in its time, or the
-- password is that of the user's line
abbrev pub FitLaw : ℕ → PlainSetup → Type 0
FitLaw number own = (occasions : List Occasion) → number < 86400
    → length occasions ≡ tokens_for (kind_of number) → AllByRecursion (IsGiven number) occasions
    → Meets drill_acceptor own (kind_of number) occasions
