-- What an initiator's step finds verified, where nothing is forged.
use Rattle.std.proofs.Common.{◌≡◌, ◌⊎◌, inl, inr, ℕ, Bool, true, false, map, refl, sym, ap, subst, ◌∙◌, List, [], ◌∷◌, slice_get, Option, Some}
use Rattle.std.proofs.lemmas.Option.{same_Some}
use Rattle.gss_base.specs.declared.mech.MechKind.{MechKind}
use Rattle.krb_derive.specs.declared.key.Key.{Key}
use Rattle.krb_derive.specs.Making.{Making, sealed_making}
use Rattle.krb_tokens.specs.declared.end.Side.TheVariants.{Initiator}
use Rattle.ap_exchange.specs.Laws.{TakesBy}
use Rattle.ap_exchange.specs.Reply.{reply_found}
use Rattle.scram_mech.specs.Laws.{Completes}
use Rattle.scram_mech.specs.MechMaking.{OfType, OfPassword, MechMaking, AmongMakings, typed, signature_making}
use Rattle.spnego_core.specs.declared.outcome.Outcome.{Outcome}
use Rattle.spnego_core.specs.Ends.{PlainSetup, EndSays}
use Rattle.spnego_core.specs.Ends as ends
use Rattle.spnego_core.specs.EndSteps.{StepSays}
use Rattle.spnego_core.specs.EndSteps as steps
use Rattle.spnego_core.specs.ListMic.{mic_found}
use Rattle.spnego_core.specs.Initiating.{Initiated, own_list}
use Rattle.spnego_core.specs.InitLaws.{own_of, listed_of, finished_of, finished_in, Covered, GoesOn, ByReply, BySignature, SeesMic, IsFinish, InitLaw}
use Rattle.world_laws.specs.State.{World}
use Rattle.world_laws.specs.Premises.{Marking, GuardedSession, GuardedSecret, Guarded, OnGuarded, BuiltKey, WasMade}
use Rattle.world_laws.proofs.Invariants.{Below, KrbDone, ScramDone, MechFinished, SawList}
use Rattle.world_laws.proofs.FoundKept.{EndFound, OutcomeFound}

-- what was found verified under a guarded key was handed out
abbrev pub Verified : Marking → World → List MechMaking → Type 0
Verified marking w found = (making : MechMaking) → AmongMakings found making → Guarded marking w.fixed making.key → WasMade w making

-- who finished on something guarded has the key of a context that is built on a guarded key
abbrev pub Built : Marking → World → Type 0
Built marking w = (i : ℕ) (own : PlainSetup) (outcome : Outcome) → slice_get w.facts i ≡ Some own → MechFinished marking w own outcome → OnGuarded marking own outcome.mech → BuiltKey marking w.fixed outcome.key

-- ---- one making that was found

pub guarded-session : (marking : Marking) (w : World) (key : Key) (making : MechMaking) → making.key ≡ OfType key → GuardedSession marking key → Guarded marking w.fixed making.key
guarded-session marking w key making e guarded = subst (Guarded marking w.fixed) (sym e) (inl guarded)

pub guarded-secret : (marking : Marking) (w : World) (key : List ℕ) (making : MechMaking) → making.key ≡ OfPassword key → GuardedSecret marking key → Guarded marking w.fixed making.key
guarded-secret marking w key making e guarded = subst (Guarded marking w.fixed) (sym e) guarded

pub only-one : (one making : MechMaking) (found : List MechMaking) → found ≡ one ∷ [] → AmongMakings found making → making ≡ one
only-one one making found e among = go (subst (λ (l : List MechMaking). AmongMakings l making) e among)
  where
    go : (making ≡ one) ⊎ ⊥ → making ≡ one
    go (inl same) = same
    go (inr never) = absurd never

pub sealed-key : (key : Key) (usage : ℕ) (octets : List ℕ) (found : List Making) (making : MechMaking) → found ≡ sealed_making key usage octets ∷ [] → AmongMakings (map typed found) making → making.key ≡ OfType key
sealed-key key usage octets found making e among = ap (λ (m : MechMaking). m.key) (only-one (typed (sealed_making key usage octets)) making (map typed found) (ap (map typed) e) among)

-- ---- a mechanism is finished

by-reply : (marking : Marking) (w : World) (own : PlainSetup) (found : List MechMaking) (outcome : Outcome) (r : ByReply own found outcome) → TakesBy r.end r.token r.made → Verified marking w found → KrbDone marking w own outcome
by-reply marking w own found outcome r takes verified = record {
  end = r.end;
  waits = r.waits;
  token = r.token;
  done = r.made;
  takes = r.takes;
  outcome_is = r.outcome_is;
  handed_out = λ guarded making among.
      verified making (r.verified making among) (guarded-session marking w r.end.session making (sealed-key r.end.session _ takes.octets (reply_found r.end r.token) making takes.finds among) guarded);
}

by-signature : (marking : Marking) (w : World) (own : PlainSetup) (found : List MechMaking) (outcome : Outcome) (r : BySignature own found outcome) → Completes r.end r.token r.finished → Verified marking w found → ScramDone marking w own outcome
by-signature marking w own found outcome r completes verified = record {
  end = r.end;
  proved = r.proved;
  token = r.token;
  finished = r.finished;
  takes = r.takes;
  outcome_is = r.outcome_is;
  handed_out = λ guarded making among.
      verified making (r.verified making among)
      (guarded-secret marking w r.end.server making (ap (λ (m : MechMaking). m.key) (only-one (signature_making r.end.server r.end.auth) making r.finished.found completes.found among)) guarded);
}

finish-found : (laws : Below) (marking : Marking) (w : World) (own : PlainSetup) (found : List MechMaking) (outcome : Outcome) → Verified marking w found → IsFinish own found outcome → MechFinished marking w own outcome
finish-found laws marking w own found outcome verified (inl r) = inl (by-reply marking w own found outcome r (laws.exchange.takes r.end r.token r.made r.takes) verified)
finish-found laws marking w own found outcome verified (inr r) = inr (by-signature marking w own found outcome r (laws.scram.completes r.end r.token r.finished r.takes) verified)

-- ---- a step

pub record StepFound (marking : Marking) (w : World) (own : PlainSetup) (step : StepSays) (listed : Bool) : Type 0 where
  pub finished : (outcome : Outcome) → finished_in step ≡ Some outcome → MechFinished marking w own outcome
  pub saw : (outcome : Outcome) → finished_in step ≡ Some outcome → listed ≡ true → SawList marking w own outcome

-- an end that knows of the acceptor's MIC has finished
listed-finished : (end : EndSays) → listed_of end ≡ true → (outcome : Outcome) × (finished_of end ≡ Some outcome)
listed-finished (ends.Opens opening) e = absurd (let f : false ≡ true = e in cc)
listed-finished (ends.Talks talking) e = absurd (let f : false ≡ true = e in cc)
listed-finished (ends.Signed signed) e = (signed.outcome, refl)

step-finished : (laws : Below) (marking : Marking) (w : World) (end : EndSays) (taken : Initiated) (outcome : Outcome) → EndFound marking w end → Verified marking w taken.found
    → (finished_of end ≡ Some outcome) ⊎ IsFinish (own_of end) taken.found outcome → MechFinished marking w (own_of end) outcome
step-finished laws marking w end taken outcome f verified (inl before) = f.signed outcome before
step-finished laws marking w end taken outcome f verified (inr now) = finish-found laws marking w (own_of end) taken.found outcome verified now

saw-now : (marking : Marking) (w : World) (own : PlainSetup) (found : List MechMaking) (outcome : Outcome) → Verified marking w found → (OnGuarded marking own outcome.mech → BuiltKey marking w.fixed outcome.key)
    → SeesMic own found outcome → SawList marking w own outcome
saw-now marking w own found outcome verified built s = record {
  mic = s.mic;
  right = s.right;
  handed_out = λ on. verified (mic_found outcome Initiator (own_list own) s.mic) s.verified (inr (built on));
}

saw-before : (marking : Marking) (w : World) (end : EndSays) (taken : Initiated) (outcome : Outcome) → EndFound marking w end → InitLaw end taken → finished_in taken.step ≡ Some outcome → listed_of end ≡ true → SawList marking w (own_of end) outcome
saw-before marking w end taken outcome f law e listed =
    let was = listed-finished end listed in
    let same : was.0 ≡ outcome = same_Some was.0 outcome (sym (law.stays was.0 was.1) ∙ e) in
    subst (SawList marking w (own_of end)) same (f.listed was.0 was.1 listed)

step-saw : (marking : Marking) (w : World) (end : EndSays) (taken : Initiated) (outcome : Outcome) → EndFound marking w end → InitLaw end taken → Verified marking w taken.found
    → (OnGuarded marking (own_of end) outcome.mech → BuiltKey marking w.fixed outcome.key) → finished_in taken.step ≡ Some outcome → (listed_of end ≡ true) ⊎ SeesMic (own_of end) taken.found outcome
    → SawList marking w (own_of end) outcome
step-saw marking w end taken outcome f law verified built e (inl before) = saw-before marking w end taken outcome f law e before
step-saw marking w end taken outcome f law verified built e (inr now) = saw-now marking w (own_of end) taken.found outcome verified built now

pub step-found : (laws : Below) (marking : Marking) (w : World) (i : ℕ) (end : EndSays) (taken : Initiated) → Built marking w → slice_get w.facts i ≡ Some (own_of end) → EndFound marking w end → InitLaw end taken → Verified marking w taken.found
    → StepFound marking w (own_of end) taken.step taken.listed
step-found laws marking w i end taken built there f law verified = record {
  finished = λ outcome e. step-finished laws marking w end taken outcome f verified (law.finishes outcome e);
  saw = λ outcome e listed. step-saw marking w end taken outcome f law verified
      (built i (own_of end) outcome there (step-finished laws marking w end taken outcome f verified (law.finishes outcome e))) e (law.sees outcome e listed);
}

-- ---- where it leads

pub going-found : (marking : Marking) (w : World) (own : PlainSetup) (chosen : Option MechKind) (listed : Bool) (end : EndSays) (token : List ℕ) → GoesOn own chosen listed end → StepFound marking w own (steps.More end token) listed → EndFound marking w end
going-found marking w own chosen listed end token goes s = record {
  signed = λ outcome e. subst (λ (o : PlainSetup). MechFinished marking w o outcome) (sym goes.own_is) (s.finished outcome e);
  listed = λ outcome e l. subst (λ (o : PlainSetup). SawList marking w o outcome) (sym goes.own_is) (s.saw outcome e (sym goes.listed_is ∙ l));
}

covered-found : (marking : Marking) (w : World) (own : PlainSetup) (listed : Bool) (outcome : Outcome) → StepFound marking w own (steps.Done outcome) listed → Covered own outcome.mech listed → Covered own outcome.mech false ⊎ SawList marking w own outcome
covered-found marking w own listed outcome s (inl first) = inl (inl first)
covered-found marking w own listed outcome s (inr saw) = inr (s.saw outcome refl saw)

pub done-found : (marking : Marking) (w : World) (own : PlainSetup) (listed : Bool) (outcome : Outcome) → StepFound marking w own (steps.Done outcome) listed → Covered own outcome.mech listed → OutcomeFound marking w own outcome
done-found marking w own listed outcome s covered = record { finished = s.finished outcome refl; covered = covered-found marking w own listed outcome s covered }
