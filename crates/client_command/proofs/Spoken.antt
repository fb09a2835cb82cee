-- A session that was held is the talk of its plan.
use Rattle.std.proofs.Common.{◌≡◌, ◌≢◌, inl, inr, ℕ, Bool, true, false, IsTrue, List, [], ◌∷◌, ◌++◌, append_assoc, length, Option, None, refl, sym, ap, ◌∙◌}
use Rattle.std.proofs.lemmas.List.{append-nil}
use Rattle.sec_base.specs.Link.{Wire}
use Rattle.spnego_core.specs.declared.setup.MechCred.{MechCred}
use Rattle.spnego_core.specs.declared.outcome.Outcome.{Outcome}
use Rattle.gss_client.specs.Conversing.{Talked}
use Rattle.gss_client.specs.declared.conversation.Parting.{Parting}
use Rattle.gss_client.specs.declared.conversation.Parting.TheVariants as partings
use Rattle.gss_client.specs.declared.refusal.ClientRefusal.{ClientRefusal}
use Rattle.gss_client.specs.declared.refusal.ClientRefusal.TheVariants as refusals
use Rattle.client_options.specs.Command.{called_by}
use Rattle.client_options.specs.Endings.{end_of, end_of_refusal, is_parted}
use Rattle.client_command.specs.Runs.{start_of, planned, Spoke, EndsSo, Reports}
use Rattle.client_options.specs.declared.ending.RunEnd.{RunEnd}
use Rattle.client_options.specs.declared.ending.RunEnd.TheVariants.{LinkFault, NoMemory}
use Rattle.client_options.specs.declared.words.Plan.{Plan}

not-parted : (refusal : ClientRefusal) → is_parted (end_of_refusal refusal) ≡ true → ⊥
not-parted refusals.LinkFault e = cc
not-parted refusals.PeerEnded e = cc
not-parted (refusals.Refused denial) e = cc
not-parted (refusals.Negotiation refusal) e = cc
not-parted (refusals.BadReply why) e = cc
not-parted refusals.NoMemory e = cc

-- a run whose end is parted wasn't refused
unrefused : (parting : Parting) → is_parted (end_of parting) ≡ true → (refusal : ClientRefusal) → parting ≢ partings.Refused refusal
unrefused partings.Finished parted refusal e = cc
unrefused partings.Spent parted refusal e = cc
unrefused partings.Foreign parted refusal e = cc
unrefused (partings.Refused other) parted refusal e = not-parted other parted

pub held : {clock draw : Bool} {moments moments' given mid given' : List ℕ} (plan : Plan) (creds : List MechCred) (stamp : ℕ) (draws : List ℕ) {old new : Wire} {outcome : Option Outcome} {results : List (List ℕ)} {parting : Parting}
    → (IsTrue clock → moments' ≡ moments ++ stamp ∷ []) → length draws ≡ 66 → (IsTrue draw → mid ≡ given ++ draws)
    → Talked draw mid given' (start_of plan creds stamp draws) plan.times (called_by plan.command) plan.args old new outcome results parting
    → Spoke clock moments moments' draw given given' plan creds old new outcome results (end_of parting)
held {clock} {draw} {moments} {moments'} {given} {mid} {given'} plan creds stamp draws {parting = parting} moment size octets t = record {
  stamp = stamp;
  draws = draws;
  confounders = t.drawn;
  drew = record {
    moment = moment;
    size = size;
    octets = λ d. t.draws d ∙ (ap (λ (xs : List ℕ). xs ++ t.drawn) (octets d) ∙ append_assoc given draws t.drawn);
  };
  took = t.took;
  wrote = t.wrote;
  went = t.went;
  front = t.front;
  whole = λ link memory later.
      let w = t.whole (λ e. link (ap end_of e)) (λ e. memory (ap end_of e)) later in
      record { written = w.written; outcome_is = w.outcome_is; results_are = w.results_are; ends = ap end_of (sym w.parts); undrawn_is = w.undrawn_is };
  heard = λ parted later. t.heard (unrefused parting parted) later;
}

-- a session that had no memory to begin: nothing was written, and no octets were drawn behind those of its start
pub unbegun : {clock draw : Bool} {moments moments' given given' : List ℕ} (plan : Plan) (creds : List MechCred) (stamp : ℕ) (draws : List ℕ) (wire : Wire) {outcome : Option Outcome} {results : List (List ℕ)} {parting : Parting}
    → (IsTrue clock → moments' ≡ moments ++ stamp ∷ []) → length draws ≡ 66 → (IsTrue draw → given' ≡ given ++ draws)
    → outcome ≡ None → results ≡ [] → parting ≡ partings.Refused refusals.NoMemory
    → Spoke clock moments moments' draw given given' plan creds wire wire outcome results (end_of parting)
unbegun {clock} {draw} {moments} {moments'} {given} {given'} plan creds stamp draws wire moment size octets no_outcome no_results refused = rw no_outcome (rw no_results (rw refused (record {
  stamp = stamp;
  draws = draws;
  confounders = [];
  drew = record {
    moment = moment;
    size = size;
    octets = λ d. octets d ∙ ap (λ (xs : List ℕ). given ++ xs) (sym (append-nil draws));
  };
  took = [];
  wrote = [];
  went = record { taken = sym (append-nil wire.taken); coming = ([], append-nil wire.coming); written = sym (append-nil wire.written) };
  front = λ later. record { written = ((planned plan creds stamp draws later wire.coming).written, refl); outcome_is = inl refl; results_are = ((planned plan creds stamp draws later wire.coming).results, refl) };
  whole = λ link memory later. absurd (memory refl);
  heard = λ parted later. let bad : false ≡ true = parted in cc;
})))

-- what is returned of it
pub returned : {clock draw : Bool} {moments moments' given given' : List ℕ} {plan : Plan} {creds : List MechCred} {old new : Wire} {outcome outcome' : Option Outcome} {results results' : List (List ℕ)} (parting : Parting) {end : RunEnd}
    → Spoke clock moments moments' draw given given' plan creds old new outcome results (end_of parting) → Reports outcome results parting outcome' results' end
    → Spoke clock moments moments' draw given given' plan creds old new outcome' results' end
returned parting s (inl same) = rw same.0 (rw same.1 (rw same.2 s))
returned {clock} {draw} {moments} {moments'} {given} {given'} {plan} {creds} {old} {new} parting s (inr none) = rw none.0 (rw none.1 (rw none.2 (record {
  stamp = s.stamp;
  draws = s.draws;
  confounders = s.confounders;
  drew = s.drew;
  took = s.took;
  wrote = s.wrote;
  went = s.went;
  front = λ later. record { written = (s.front later).written; outcome_is = inl refl; results_are = ((planned plan creds s.stamp s.draws (s.confounders ++ later) (s.took ++ new.coming)).results, refl) };
  whole = λ link memory later. absurd (memory refl);
  heard = λ parted later. let bad : false ≡ true = parted in cc;
})))

-- a run that held its session ends as the talk does
pub ended-so : {clock draw : Bool} {moments moments' given given' : List ℕ} {plan : Plan} {creds : List MechCred} {old new : Wire} {outcome : Option Outcome} {results : List (List ℕ)} {end : RunEnd} (parting : Parting)
    → Spoke clock moments moments' draw given given' plan creds old new outcome results end → EndsSo clock moments moments' draw given given' plan creds old new parting → end ≢ LinkFault → end ≢ NoMemory → end ≡ end_of parting
ended-so {plan = plan} {creds = creds} {new = new} parting s so link memory =
    (s.whole link memory []).ends
    ∙ ap end_of (ap (λ (xs : List ℕ). (planned plan creds s.stamp s.draws xs (s.took ++ new.coming)).parting) (append-nil s.confounders) ∙ so s.stamp s.draws s.confounders s.took s.drew s.went.taken)
