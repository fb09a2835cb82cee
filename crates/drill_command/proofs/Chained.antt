-- One session after the other.
use Rattle.std.proofs.Common.{◌≡◌, ◌≤◌, ◌<◌, ◌+◌, ◌*◌, get_or, ℕ, zero, suc, List, [], ◌∷◌, ◌++◌, length, reverse, ap, sym, subst, ◌∙◌, arith}
use Rattle.std.proofs.Math.Logic.{∥∥₁_elim, ∥∥₁_map}
use Rattle.gss_base.specs.declared.mech.MechKind.{MechKind}
use Rattle.gss_base.specs.declared.mech.MechKind.TheVariants as kinds
use Rattle.accept_book.specs.Booking.{BookOf}
use Rattle.accept_core.specs.declared.entry.Entry.{Entry}
use Rattle.gss_client.specs.Start.{StartSays}
use Rattle.gss_server.specs.declared.answer.Kept.{Kept}
use Rattle.gss_client.specs.Conferring.{DueCall}
use Rattle.pair_laws.specs.Resting.{RestsAt}
use Rattle.drill_command.specs.Calls.{calls_from, after_calls}
use Rattle.drill_command.specs.Chained.{IsAdded, AreHeld, IsFirst, AreAllHeld}
use Rattle.drill_command.specs.Drilled.{value_before, client_before, after_client, calls_of, IsSession, AreSessions}
use Rattle.drill_command.specs.Fitting.{tokens_for}
use Rattle.drill_command.specs.Held.{after_answers}
use Rattle.drill_plan.specs.Generator.{octets_from}
use Rattle.drill_command.specs.Rested.{IsNext, FitsNext, RestsAgain}
use Rattle.drill_plan.specs.Sessions.{session_count, calls_in, moment_of, kind_of}
use Rattle.drill_plan.specs.Setting.{drill_acceptor}
use Rattle.drill_plan.specs.declared.session.DrillSession.{DrillSession}
use Rattle.drill_plan.specs.declared.words.Plan.{Plan}
use Rattle.drill_command.proofs.Drawing.{calls-many}
use Rattle.drill_command.proofs.Rested.{names-of}

pub added-of : (number client server server' : ℕ) (wanted : List DueCall) (old held new : BookOf) (sessions sessions' : List DrillSession) (kept : List Kept) (one : DrillSession) → new ≡ held → IsNext number client server wanted old held kept one → server' ≡ after_answers kept server → sessions' ≡ sessions ++ one ∷ []
    → IsAdded number client server server' wanted old new sessions sessions'
added-of number client server server' wanted old held new sessions sessions' kept one same next goes added = record {
  one = one;
  kept = kept;
  next = subst (λ (b : BookOf). IsNext number client server wanted old b kept one) (sym same) next;
  goes_on = goes;
  added = added;
}

-- one session more
pub held-more : (seed calls number client count value here server : ℕ) (first before book : BookOf) (front sessions : List DrillSession) → count ≡ calls_in calls number → value ≡ value_before seed calls number → client ≡ client_before seed calls number → AreHeld seed calls number first before front here
    → IsAdded number client here server (calls_from count value) before book front sessions
    → AreHeld seed calls (number + 1) first book sessions server
held-more seed calls number client count value here server first before book front sessions many is at h a =
    let one : suc number ≡ number + 1 = omega arith in
    let b : IsAdded number client here server (calls_of seed calls number) before book front sessions =
    subst (λ (v : ℕ). IsAdded number client here server (calls_from (calls_in calls number) v) before book front sessions) is (subst (λ (n : ℕ). IsAdded number client here server (calls_from n value) before book front sessions) many a) in
    let own : IsAdded number (client_before seed calls number) here server (calls_of seed calls number) before book front sessions =
    subst (λ (v : ℕ). IsAdded number v here server (calls_of seed calls number) before book front sessions) at b in
    subst (λ (n : ℕ). AreHeld seed calls n first book sessions server) one (before, front, here, h, own)

pub value-more : (seed calls number count value later : ℕ) → count ≡ calls_in calls number → value ≡ value_before seed calls number → later ≡ after_calls count value → later ≡ value_before seed calls (number + 1)
value-more seed calls number count value later many is e =
    let one : suc number ≡ number + 1 = omega arith in
    subst (λ (n : ℕ). later ≡ value_before seed calls n) one
    (e ∙ (ap (λ (n : ℕ). after_calls n value) many ∙ ap (after_calls (calls_in calls number)) is))

-- the client's generator goes on
pub client-more : (seed calls number count client later : ℕ) → count ≡ calls_in calls number → client ≡ client_before seed calls number → later ≡ after_client count client → later ≡ client_before seed calls (number + 1)
client-more seed calls number count client later many is e =
    let one : suc number ≡ number + 1 = omega arith in
    subst (λ (n : ℕ). later ≡ client_before seed calls n) one
    (e ∙ (ap (λ (n : ℕ). after_client n client) many ∙ ap (after_client (calls_in calls number)) is))

-- ---- sessions that are done

-- a book before session `number`: it is at rest, and has places in its log
record Stands (number : ℕ) (book : BookOf) : Type 0 where
  setup : book.setup ≡ drill_acceptor
  limit : book.core.limit ≡ 262144
  few : length book.core.history ≤ number * 1013
  rests : RestsAt number (moment_of number) book.core

-- sessions that are done leave such a book
record Done (seed calls number : ℕ) (book : BookOf) (sessions : List DrillSession) : Type 0 where
  done : AreSessions seed calls number book.core.history sessions
  stands : ∥ Stands number book ∥₁

later : (number : ℕ) → moment_of number < moment_of (suc number)
later number = omega arith

tokens-few : (kind : MechKind) → tokens_for kind ≤ 3
tokens-few kinds.Kerberos = omega arith
tokens-few kinds.Scram = omega arith

calls-few : (calls number : ℕ) → calls_in calls number ≤ 1000
calls-few calls number = omega arith

wanted-few : (seed calls number : ℕ) → length (calls_of seed calls number) ≤ 1000
wanted-few seed calls number = omega (arith, calls-many (calls_in calls number) (value_before seed calls number), calls-few calls number)

stands-first : (first : BookOf) → IsFirst first → Stands 0 first
stands-first first f = record {
  setup = f.setup;
  limit = ap (λ limits. get_or limits.0 1 0) f.limits;
  few = let none : length first.core.history ≡ 0 = ap length f.empty in omega (arith, none);
  rests = f.rests;
}

fits-stands : (seed calls number : ℕ) (book : BookOf) → number < 100 → Stands number book → FitsNext number (calls_of seed calls number) book
fits-stands seed calls number book small s = record {
  setup = s.setup;
  rests = s.rests;
  log = omega (arith, small, s.few, s.limit, tokens-few (kind_of number), wanted-few seed calls number);
  numbers = omega (arith, wanted-few seed calls number);
}

stands-next : (seed calls number : ℕ) (start : StartSays) (old new : BookOf) (one : DrillSession) → Stands number old → RestsAgain (tokens_for (kind_of number)) (kind_of number) number (moment_of number) start (calls_of seed calls number) old new one → Stands (suc number) new
stands-next seed calls number start old new one s r =
    let next : number + 1 ≡ suc number = omega arith in
    record {
      setup = r.limits.setup ∙ s.setup;
      limit = r.limits.limit ∙ s.limit;
      few = omega (arith, s.few, r.grown, tokens-few (kind_of number), wanted-few seed calls number);
      rests = subst (λ (n : ℕ). RestsAt n (moment_of (suc number)) new.core) next (r.rests (moment_of (suc number)) (later number));
    }

session-of : (number client server : ℕ) (wanted : List DueCall) (old new : BookOf) (kept : List Kept) (one : DrillSession) → (n : IsNext number client server wanted old new kept one) → RestsAgain (tokens_for (kind_of number)) (kind_of number) number (moment_of number) n.start wanted old new one → IsSession number wanted old.core.history new.core.history one
session-of number client server wanted old new kept one n r = record {
  ended = r.ended;
  agreed = r.agreed;
  outcome = r.outcome;
  mech = r.mech;
  named = names-of number (moment_of number) (octets_from 66 client) n.start r.agreed n.begun r.named;
  results = r.results;
  opened = r.opened;
  enters = r.enters;
  names = r.names;
  history = r.history;
}

all-done : (seed calls number : ℕ) (first book : BookOf) (sessions : List DrillSession) (server : ℕ) → number ≤ 100 → AreHeld seed calls number first book sessions server → IsFirst first → Done seed calls number book sessions
all-done seed calls zero first book sessions server small h f = record {
  done = (ap (λ (b : BookOf). b.core.history) h.0 ∙ f.empty, h.1);
  stands = ∣ subst (λ (b : BookOf). Stands 0 b) (sym h.0) (stands-first first f) ∣₁;
}
all-done seed calls (suc number) first book sessions server small h f =
    let a = h.4 in
    let d = all-done seed calls number first h.0 h.1 h.2 (omega (arith, small)) h.3 f in
    let again : ∥ RestsAgain (tokens_for (kind_of number)) (kind_of number) number (moment_of number) a.next.start (calls_of seed calls number) h.0 book a.one ∥₁ =
    ∥∥₁_elim d.stands squash₁ (λ s. a.next.rests (fits-stands seed calls number h.0 (omega (arith, small)) s)) in
    record {
      done = (h.0.core.history, h.1, a.one, d.done, a.added, ∥∥₁_map again (λ g. session-of number (client_before seed calls number) h.2 (calls_of seed calls number) h.0 book a.kept a.one a.next g));
      stands = ∥∥₁_elim d.stands squash₁ (λ s. ∥∥₁_map again (λ g. stands-next seed calls number a.next.start h.0 book a.one s g));
    }

few-sessions : (calls : ℕ) → calls ≤ 100000 → session_count calls ≤ 100
few-sessions calls h = omega (arith, h)

pub all-held : (seed calls number server : ℕ) (first last : BookOf) (sessions : List DrillSession) (log : List Entry) → calls ≤ 100000 → number ≡ session_count calls → IsFirst first → AreHeld seed calls number first last sessions server → reverse log ≡ last.core.history → AreAllHeld seed calls sessions log
all-held seed calls number server first last sessions log most all begins held is =
    let h : AreHeld seed calls (session_count calls) first last sessions server = subst (λ (n : ℕ). AreHeld seed calls n first last sessions server) all held in
    record {
      first = first;
      last = last;
      server = server;
      begins = begins;
      held = h;
      log_is = is;
      done = subst (λ (hs : List Entry). AreSessions seed calls (session_count calls) hs sessions) (sym is) (all-done seed calls (session_count calls) first last sessions server (few-sessions calls most) h begins).done;
    }

-- the same of an equal plan
pub held-by : (one other : Plan) (sessions : List DrillSession) (log : List Entry) → one ≡ other → AreAllHeld one.seed one.calls sessions log → AreAllHeld other.seed other.calls sessions log
held-by one other sessions log e h = subst (λ (p : Plan). AreAllHeld p.seed p.calls sessions log) e h
