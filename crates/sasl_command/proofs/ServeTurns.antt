-- A turn of a server.
use Rattle.std.proofs.Common.{◌≡◌, inl, inr, refl, sym, ◌∙◌, arith, ℕ, List, [], Ok, Err}
use Rattle.sec_base.specs.Link.{Wire}
use Rattle.sec_base.specs.Streams.{Took}
use Rattle.spnego_core.specs.declared.setup.AcceptSetup.{AcceptSetup}
use Rattle.sasl_frames.specs.Messages.{Hears}
use Rattle.sasl_frames.specs.declared.message.ReadEnd.{ReadEnd}
use Rattle.sasl_options.specs.declared.ending.RunEnd.{RunEnd}
use Rattle.sasl_options.specs.declared.ending.RunEnd.TheVariants.{Finished}
use Rattle.sasl_layer.specs.declared.layer.Wish.{Wish}
use Rattle.sasl_gssapi.specs.declared.accept.SaslAccept.TheVariants.{Asked, Replied, Offered}
use Rattle.sasl_command.specs.Turns.{Seen, Leads, beside, Did, Ended, Made, Spoken, end_of_read}
use Rattle.sasl_command.specs.Serving.{limit, Makes, Serves, IsServed, IsBefore, ended_at, age}
use Rattle.sasl_command.specs.declared.serving.Stage.{Stage}
use Rattle.sasl_command.specs.declared.serving.Stage.TheVariants.{Before, Under}
use Rattle.sasl_command.proofs.Devices.{deals-none, deals-took}
use Rattle.sasl_command.proofs.Turning.{turned, stopped, ended, unread, leads-end}

-- a message was read, and this was made of it
pub serve-turned : (setup : AcceptSetup) (stage next : Stage) (a : Seen) (b : Wire) (c : Seen) (message : List ℕ) → Hears (limit stage) a.wire b (Ok message) → Made (Makes setup stage message) (beside a b) c (Ok next) → Did (Serves setup) stage next a c
serve-turned setup stage next a b c message h made =
    turned (Serves setup) stage next (Makes setup stage message) h.0 (λ moments octets said answer m. (message, h.1, m)) (deals-took a b h.2) made

pub serve-stopped : (setup : AcceptSetup) (stage : Stage) (end : RunEnd) (a : Seen) (b : Wire) (c : Seen) (message : List ℕ) → Hears (limit stage) a.wire b (Ok message) → Made (Makes setup stage message) (beside a b) c (Err end) → Ended (Serves setup) limit IsServed IsBefore stage a c end
serve-stopped setup stage end a b c message h made =
    stopped (Serves setup) limit IsServed IsBefore stage (Makes setup stage message) h.0 end (λ moments octets said answer m. (message, h.1, m)) (deals-took a b h.2) made

-- the stream ended between two messages
between : (setup : AcceptSetup) (stage : Stage) (a : Seen) (b : Wire) → (a.wire.coming ≡ []) × Took a.wire b [] → Ended (Serves setup) limit IsServed IsBefore stage a (beside a b) (ended_at stage)
between setup (Before end) a b h = ended (Serves setup) limit IsServed IsBefore (Before end) a b tt h
between setup (Under layer) a b h = record {
  rest = record { took = []; wrote = []; moments = []; octets = [] };
  cause = (record { wrote = refl; moments = refl; octets = refl }, refl, inl (sym h.1.coming ∙ h.0));
  deals = deals-took a b h.1;
}

pub serve-unread : (setup : AcceptSetup) (stage : Stage) (a : Seen) (b : Wire) (read : ReadEnd) → Hears (limit stage) a.wire b (Err read) → Ended (Serves setup) limit IsServed IsBefore stage a (beside a b) (end_of_read read (ended_at stage))
serve-unread setup stage a b read h = unread (Serves setup) limit IsServed IsBefore stage (ended_at stage) a b read (between setup stage a b) h

-- 65,536 messages were echoed
enough : (setup : AcceptSetup) (stage : Stage) (a : Seen) → age stage ≡ 65539 → Ended (Serves setup) limit IsServed IsBefore stage a a Finished
enough setup (Before (Asked wish)) a e = absurd (omega (arith, e))
enough setup (Before (Replied agreed)) a e = absurd (omega (arith, e))
enough setup (Before (Offered agreed)) a e = absurd (omega (arith, e))
enough setup (Under layer) a e = record {
  rest = record { took = []; wrote = []; moments = []; octets = [] };
  cause = (record { wrote = refl; moments = refl; octets = refl }, refl, inr (omega (arith, e)));
  deals = deals-none a;
}

pub served : (setup : AcceptSetup) (wish : Wish) (stage : Stage) {a b : Seen} → Leads (Serves setup) (Before (Asked wish)) stage a b → age stage ≡ 65539 → Spoken (Serves setup) limit IsServed IsBefore (Before (Asked wish)) stage a b Finished
served setup wish stage {a} {b} l e = leads-end (Serves setup) limit IsServed IsBefore (Before (Asked wish)) stage Finished l (enough setup stage b e)
