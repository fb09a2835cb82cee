-- A reply that is to finish a creation: its status, then its window, then its verifier.
use Rattle.std.proofs.Common.{◌≡◌, ◌≢◌, true, false, Ok, Err, Result, refl}
use Rattle.std.proofs.lemmas.Bool.{ne_eqb}
use Rattle.gss_base.specs.declared.status.TheConstants.{COMPLETE}
use Rattle.spnego_core.specs.declared.outcome.Outcome.{Outcome}
use Rattle.gss_client.specs.declared.refusal.ClientRefusal.{ClientRefusal}
use Rattle.gss_client.specs.declared.refusal.ClientRefusal.TheVariants.{BadReply}
use Rattle.gss_client.specs.declared.refusal.ReplyWhy.TheVariants.{Width, Verifier}
use Rattle.gss_client.specs.Judging.{GrantedValue, done_by, is_verified}

-- a status that finishes, and no window
pub no-width : (g : GrantedValue) (outcome : Outcome) → g.result.major ≡ COMPLETE → g.result.window ≡ 0 → ◌≡◌ {A = Result (Unit {0}) ClientRefusal} (Err (BadReply Width)) (done_by g outcome)
no-width g outcome status window = rw (status, window) refl

-- a window, and no MIC over it
pub no-mic : (g : GrantedValue) (outcome : Outcome) → g.result.major ≡ COMPLETE → g.result.window ≢ 0 → is_verified outcome g.answer g.result.window ≡ false → ◌≡◌ {A = Result (Unit {0}) ClientRefusal} (Err (BadReply Verifier)) (done_by g outcome)
no-mic g outcome status window mic = rw (status, ne_eqb g.result.window 0 window, mic) refl

-- and all three
pub finished : (g : GrantedValue) (outcome : Outcome) → g.result.major ≡ COMPLETE → g.result.window ≢ 0 → is_verified outcome g.answer g.result.window ≡ true → ◌≡◌ {A = Result (Unit {0}) ClientRefusal} (Ok tt) (done_by g outcome)
finished g outcome status window mic = rw (status, ne_eqb g.result.window 0 window, mic) refl
