-- A gate over another is seen as one over what the other has.
use Rattle.std.proofs.Common.{ℕ, Bool, true, false, ◌==◌, List, [], ◌∷◌, Option, None, Some, Result, ap}
use Rattle.again_calls.specs.declared.place.Act.{Act}
use Rattle.again_calls.specs.Kept.{act_of}
use Rattle.accept_core.specs.declared.answer.AdmitRefusal.{AdmitRefusal}
use Rattle.accept_book.specs.declared.book_answer.Admitted.{Admitted}
use Rattle.accept_book.specs.declared.book_answer.Lease.{Lease}
use Rattle.accept_book.specs.RecordShown.{Asked, AskedStep, AskedLook, AskedAdmit, AskedEnd}
use Rattle.rpc_program.specs.Programs.{NONE}
use Rattle.rpcsec_bodies.specs.declared.service.Service.{Service}
use Rattle.sha1.specs.Sha1.{sha1}
use Rattle.gss_server.specs.Asking.{Asking}
use Rattle.again_gate.specs.Again.{AgainOf, with_xid, AgainAnswers, Passes, AdmitsSame, AdmitsBy, Admits, is_told}
use Rattle.again_gate.specs.Turns.{Turned, Turning}

-- a gate over what the gate below has
abbrev pub viewed : {S B : Type 0} → (S → B) → AgainOf S → AgainOf B
viewed view again = record { gate = view again.gate; xid = again.xid; places = again.places; most = again.most }

module _ {S B : Type 0} (view : S → B) (Answers : S → Asked Admitted → S → Type 0) (Seen : B → Asked Admitted → B → Type 0) (see : (old : S) (one : Asked Admitted) (new : S) → Answers old one new → Seen (view old) one (view new)) where
  passes-viewed : (old : AgainOf S) (one : Asked Admitted) (new : AgainOf S) (kept : List _) → Passes Answers old one new kept → Passes Seen (viewed view old) one (viewed view new) kept
  passes-viewed old one new kept p = record { answers = see old.gate one new.gate p.answers; xid = p.xid; most = p.most; places = p.places }

  same-viewed : (same : Bool) (act : Act) (old : AgainOf S) (lease : Lease) (seq : ℕ) (service : Service) (args : List ℕ) (answer : Result Admitted AdmitRefusal) (new : AgainOf S)
      → AdmitsSame Answers same act old lease seq service args answer new → AdmitsSame Seen same act (viewed view old) lease seq service args answer (viewed view new)
  same-viewed true act old lease seq service args answer new r = record { inner = r.inner; passes = passes-viewed old _ new old.places r.passes; outcome = r.outcome; again = r.again; is = r.is }
  same-viewed false act old lease seq service args answer new r = (r.0, ap (viewed view) r.1)

  by-viewed : (found : Option Act) (old : AgainOf S) (lease : Lease) (seq : ℕ) (service : Service) (procedure : ℕ) (args : List ℕ) (answer : Result Admitted AdmitRefusal) (new : AgainOf S)
      → AdmitsBy Answers found old lease seq service procedure args answer new → AdmitsBy Seen found (viewed view old) lease seq service procedure args answer (viewed view new)
  by-viewed None old lease seq service procedure args answer new a = record { answers = see old.gate _ new.gate a.answers; xid = a.xid; most = a.most; keeps = a.keeps }
  by-viewed (Some act) old lease seq service procedure args answer new r = same-viewed (is_told act procedure (sha1 args)) act old lease seq service args answer new r

  if-viewed : (none : Bool) (old : AgainOf S) (lease : Lease) (seq : ℕ) (service : Service) (procedure : ℕ) (args : List ℕ) (answer : Result Admitted AdmitRefusal) (new : AgainOf S)
      → Admits Answers none old lease seq service procedure args answer new → Admits Seen none (viewed view old) lease seq service procedure args answer (viewed view new)
  if-viewed true old lease seq service procedure args answer new p = passes-viewed old _ new old.places p
  if-viewed false old lease seq service procedure args answer new by = by-viewed (act_of lease.id old.xid old.places) old lease seq service procedure args answer new by

  one-viewed : (old : AgainOf S) (one : Asked Admitted) (new : AgainOf S) → AgainAnswers Answers old one new → AgainAnswers Seen (viewed view old) one (viewed view new)
  one-viewed old (AskedStep id token now draws answer) new p = passes-viewed old _ new _ p
  one-viewed old (AskedLook id now answer) new p = passes-viewed old _ new _ p
  one-viewed old (AskedAdmit lease seq service procedure args answer) new by = if-viewed (procedure == NONE) old lease seq service procedure args answer new by
  one-viewed old (AskedEnd lease seq answer) new p = passes-viewed old _ new _ p

  all-viewed : (asked : List (Asked Admitted)) (old new : AgainOf S) → Asking (AgainAnswers Answers) old asked new → Asking (AgainAnswers Seen) (viewed view old) asked (viewed view new)
  all-viewed [] old new h = ap (viewed view) h
  all-viewed (one ∷ more) old new h = (viewed view h.0, one-viewed old one h.0 h.1, all-viewed more h.0 new h.2)

  -- records in a row, as they are seen
  pub turns-viewed : (turns : List Turned) (old new : AgainOf S) → Turning Answers old turns new → Turning Seen (viewed view old) turns (viewed view new)
  turns-viewed [] old new h = ap (viewed view) h
  turns-viewed (turn ∷ turns) old new h = (viewed view h.0, all-viewed turn.asked (with_xid turn.xid old) h.0 h.1, turns-viewed turns h.0 new h.2)

  -- questions of the gate below, as they are seen
  pub asked-viewed : (asked : List (Asked Admitted)) (old new : S) → Asking Answers old asked new → Asking Seen (view old) asked (view new)
  asked-viewed [] old new h = ap view h
  asked-viewed (one ∷ more) old new h = (view h.0, see old one h.0 h.1, asked-viewed more h.0 new h.2)
