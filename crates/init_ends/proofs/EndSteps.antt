-- Each step of an initiator over any objects keeps its end good.
use Rattle.std.proofs.Common.{◌≡◌, ℕ, Bool, true, false, not, ◌||◌, if◌then◌else◌, refl, sym, ap, ◌∙◌, subst, inl, inr, List, [], ◌∷◌, length, Option, Some, None, Result, Ok, Err}
use Rattle.krb_tokens.specs.declared.end.Side.TheVariants.{Initiator}
use Rattle.spnego_msgs.specs.declared.neg_state.NegState.{NegState}
use Rattle.spnego_msgs.specs.declared.neg_resp.NegResp.{NegResp}
use Rattle.spnego_core.specs.declared.outcome.Outcome.{Outcome}
use Rattle.spnego_core.specs.declared.refusal.NegRefusal.{NegRefusal}
use Rattle.spnego_core.specs.declared.refusal.NegRefusal.TheVariants.{Defective, Rejected, MechNotMine, MicMissing, MicBad}
use Rattle.spnego_core.specs.Initiating.{completes_now, completes_later}
use Rattle.spnego_core.specs.ListMic.{is_list_mic}
use Rattle.spnego_core.specs.Outcome.{outcome_of}
use Rattle.spnego_core.specs.Steps.{◌>>=◌, due, or_refuse}
use Rattle.spnego_core.specs.Tokens.{bare_reply, first_read, resp_read, last_read, rejects, says_completed}
use Rattle.mech_objects.specs.declared.ask.MechAsk.{MechAsk}
use Rattle.mech_objects.specs.declared.ask.MechMove.{MechMove}
use Rattle.mech_objects.specs.declared.ask.MechMove.TheVariants as moves
use Rattle.mech_objects.specs.Meaning.{MechSays, starts, takes}
use Rattle.init_ends.specs.declared.ends.Talk.{Talk}
use Rattle.init_ends.specs.declared.ends.Signed.{Signed as SignedEnd}
use Rattle.init_ends.specs.Objects.{is_named, oids_of, mech_for, is_first_named}
use Rattle.init_ends.specs.Ends.{SetupMeans, OpeningMeans, TalkingMeans, EndMeans, Opens, Talks, Signed, StepMeans}
use Rattle.init_ends.specs.Initiating.{opens, starts_first, ended, is_mic_owed, looks, goes_on, ran, run, switched, begins, switches, talk_with, picks, opened, is_chosen, talk_after, talked, settles, looks_again, closed, end_step}
use Rattle.init_ends.specs.EndLaws.{SeesMic, IsOwn, Covered, GoodOpening, GoodTalking, GoodSigned, GoodEnd, GoodAfter, EndLaws}

-- a fact of a step that was taken
abbrev OnStep : (StepMeans → Type 0) → Result StepMeans NegRefusal → Type 0
OnStep P (Ok step) = P step
OnStep P (Err refusal) = Unit {0}

on-if : (P : StepMeans → Type 0) (b : Bool) (x y : Result StepMeans NegRefusal) → (b ≡ true → OnStep P x) → (b ≡ false → OnStep P y) → OnStep P (if b then x else y)
on-if P true x y f g = f refl
on-if P false x y f g = g refl

on-due : (P : StepMeans → Type 0) (refusal : NegRefusal) (b : Bool) (f : Unit {0} → Result StepMeans NegRefusal) → OnStep P (f tt) → OnStep P (due refusal b >>= f)
on-due P refusal true f h = h
on-due P refusal false f h = tt

on-or : {A : Type 0} (P : StepMeans → Type 0) (refusal : NegRefusal) (o : Option A) (f : A → Result StepMeans NegRefusal) → ((v : A) → OnStep P (f v)) → OnStep P (or_refuse refusal o >>= f)
on-or P refusal None f h = tt
on-or P refusal (Some v) f h = h v

on-read : {A : Type 0} (P : StepMeans → Type 0) (x : Result A NegRefusal) (f : A → Result StepMeans NegRefusal) → ((v : A) → x ≡ Ok v → OnStep P (f v)) → OnStep P (x >>= f)
on-read P (Ok v) f h = h v refl
on-read P (Err refusal) f h = tt

-- where this MIC verifies, one of the replies has it
abbrev Sees : List MechSays → List (List ℕ) → Option (List ℕ) → Type 0
Sees own replies mic = (outcome : Outcome) (m : List ℕ) → mic ≡ Some m → is_list_mic outcome Initiator (oids_of own) m ≡ true → SeesMic own outcome replies

-- ---- the end of a mechanism that is done

ended-good : (own : List MechSays) (replies : List (List ℕ)) (talk : Talk) (outcome : Outcome) (listed completes : Bool) → talk.list ≡ oids_of own → IsOwn own talk.chosen outcome.mech → Covered own replies talk.chosen outcome → GoodAfter own replies (ended talk outcome listed completes)
ended-good own replies talk outcome listed true list chosen covered = record { oid = talk.chosen; chosen = chosen; covered = covered }
ended-good own replies talk outcome listed false list chosen covered = record { list_is = list; chosen = chosen; covered = covered }

unowed : (first asked : Bool) → (not first || asked) ≡ false → first ≡ true
unowed true asked e = refl
unowed false asked e = cc

looks-good : (own : List MechSays) (replies : List (List ℕ)) (talk : Talk) (outcome : Outcome) (state : Option NegState) (mic : Option (List ℕ)) → talk.list ≡ oids_of own → IsOwn own talk.chosen outcome.mech → Sees own replies mic → OnStep (GoodAfter own replies) (looks talk outcome state mic)
looks-good own replies talk outcome state None list chosen sees =
    on-if (GoodAfter own replies) (is_mic_owed talk) (Err MicMissing) (Ok (ended talk outcome false (completes_now state false))) (λ e. tt)
    (λ e. ended-good own replies talk outcome false (completes_now state false) list chosen
    (inl (subst (λ (x : List (List ℕ)). is_first_named x talk.chosen ≡ true) list (unowed (is_first_named talk.list talk.chosen) talk.asked e))))
looks-good own replies talk outcome state (Some mic) list chosen sees =
    on-if (GoodAfter own replies) (is_list_mic outcome Initiator talk.list mic) (Ok (ended talk outcome true (completes_now state true))) (Err MicBad)
    (λ e. ended-good own replies talk outcome true (completes_now state true) list chosen
    (inr (sees outcome mic refl (subst (λ (x : List (List ℕ)). is_list_mic outcome Initiator x mic ≡ true) list e)))) (λ e. tt)

-- ---- the mechanism

goes-good : (own : List MechSays) (replies : List (List ℕ)) (talk : Talk) (m : MechSays) (state : Option NegState) (token : List ℕ) → talk.list ≡ oids_of own → IsOwn own talk.chosen m.kind → OnStep (GoodAfter own replies) (goes_on talk m state token)
goes-good own replies talk m state token list chosen =
    on-if (GoodAfter own replies) (says_completed state) (Err (Defective 0)) _ (λ e. tt) (λ e. record { list_is = list; chosen = chosen })

ran-good : (own : List MechSays) (replies : List (List ℕ)) (talk : Talk) (m : MechSays) (token : List ℕ) (state : Option NegState) (mic : Option (List ℕ)) (r : Result MechMove NegRefusal) → talk.list ≡ oids_of own → IsOwn own talk.chosen m.kind → Sees own replies mic → OnStep (GoodAfter own replies) (ran talk m token state mic r)
ran-good own replies talk m token state mic (Err refusal) list chosen sees = tt
ran-good own replies talk m token state mic (Ok (moves.Token octets)) list chosen sees = goes-good own replies talk _ state octets list chosen
ran-good own replies talk m token state mic (Ok (moves.Done made)) list chosen sees = looks-good own replies talk (outcome_of m.kind made) state mic list chosen sees

run-good : (own : List MechSays) (replies : List (List ℕ)) (size : ℕ) (talk : Talk) (m : MechSays) (state : Option NegState) (token mic : Option (List ℕ)) → talk.list ≡ oids_of own → IsOwn own talk.chosen m.kind → Sees own replies mic → OnStep (GoodAfter own replies) (run size talk m state token mic)
unfolding run
run-good own replies size talk m state None mic list chosen sees = tt
run-good own replies size talk m state (Some token) mic list chosen sees = ran-good own replies talk m token state mic (takes m token) list chosen sees

-- ---- the first reply

switched-good : (own : List MechSays) (replies : List (List ℕ)) (talk : Talk) (m : MechSays) (ask : MechAsk) (r : Result (List ℕ) NegRefusal) → talk.list ≡ oids_of own → IsOwn own talk.chosen m.kind → OnStep (GoodAfter own replies) (switched talk m ask r)
switched-good own replies talk m ask (Err refusal) list chosen = tt
switched-good own replies talk m ask (Ok token) list chosen = record { list_is = list; chosen = chosen }

begins-good : (own : List MechSays) (replies : List (List ℕ)) (talk : Talk) (m : MechSays) (ask : MechAsk) (state : Option NegState) (token : Option (List ℕ)) → talk.list ≡ oids_of own → IsOwn own talk.chosen m.kind → OnStep (GoodAfter own replies) (begins talk m ask state token)
begins-good own replies talk m ask state (Some token) list chosen = tt
begins-good own replies talk m ask state None list chosen =
    on-if (GoodAfter own replies) (says_completed state) (Err (Defective 0)) (switched talk m ask (starts m ask)) (λ e. tt) (λ e. switched-good own replies talk m ask (starts m ask) list chosen)

switches-good : (own : List MechSays) (replies : List (List ℕ)) (talk : Talk) (ask : MechAsk) (found : Option MechSays) (state : Option NegState) (token : Option (List ℕ)) → talk.list ≡ oids_of own → ((m : MechSays) → found ≡ Some m → IsOwn own talk.chosen m.kind)
    → OnStep (GoodAfter own replies) (switches talk ask found state token)
switches-good own replies talk ask None state token list h = tt
switches-good own replies talk ask (Some m) state token list h = begins-good own replies talk m ask state token list (h m refl)

first-found : (first : MechSays) (rest : List MechSays) (oid : List ℕ) → is_named oid first.oid ≡ true → mech_for (first ∷ rest) oid ≡ Some first
first-found first rest oid e = rw e refl

later-found : (first : MechSays) (rest : List MechSays) (oid : List ℕ) → is_named oid first.oid ≡ false → mech_for (first ∷ rest) oid ≡ mech_for rest oid
later-found first rest oid e = rw e refl

picks-good : (own : List MechSays) (replies : List (List ℕ)) (size : ℕ) (opening : OpeningMeans) (oid : List ℕ) (state : Option NegState) (token mic : Option (List ℕ)) → GoodOpening own opening → Sees own replies mic → OnStep (GoodAfter own replies) (picks size opening oid state token mic)
unfolding picks
picks-good own replies size opening oid state token mic h sees =
    on-if (GoodAfter own replies) (is_named oid opening.mech.oid) (run size (talk_with opening.list oid state) opening.mech state token mic) (switches (talk_with opening.list oid state) opening.ask (mech_for opening.others oid) state token)
    (λ e. run-good own replies size (talk_with opening.list oid state) opening.mech state token mic h.list_is
    (record { object = h.first; found = first-is e; kind_is = sym h.kind_is }) sees)
    (λ e. switches-good own replies (talk_with opening.list oid state) opening.ask (mech_for opening.others oid) state token h.list_is (λ m f. record { object = m; found = later-is e ∙ f; kind_is = refl }))
  where
    first-is : is_named oid opening.mech.oid ≡ true → mech_for own oid ≡ Some h.first
    first-is e =
        subst (λ (x : List MechSays). mech_for x oid ≡ Some h.first) (sym h.own_is)
        (first-found h.first opening.others oid (subst (λ (x : List ℕ). is_named oid x ≡ true) h.oid_is e))

    later-is : is_named oid opening.mech.oid ≡ false → mech_for own oid ≡ mech_for opening.others oid
    later-is e =
        subst (λ (x : List MechSays). mech_for x oid ≡ mech_for opening.others oid) (sym h.own_is)
        (later-found h.first opening.others oid (subst (λ (x : List ℕ). is_named oid x ≡ false) h.oid_is e))

opened-good : (own : List MechSays) (replies : List (List ℕ)) (size : ℕ) (opening : OpeningMeans) (resp : NegResp) → GoodOpening own opening → Sees own replies resp.mic → OnStep (GoodAfter own replies) (opened size opening resp)
unfolding opened
opened-good own replies size opening resp h sees =
    on-due (GoodAfter own replies) Rejected (not (rejects resp.state)) _
    (on-or (GoodAfter own replies) (Defective size) resp.state _ (λ state. on-or (GoodAfter own replies) (Defective size) resp.mech _ (λ oid. picks-good own replies size opening oid (Some state) resp.token resp.mic h sees)))

-- ---- later replies

talked-good : (own : List MechSays) (replies : List (List ℕ)) (size : ℕ) (talking : TalkingMeans) (resp : NegResp) → GoodTalking own talking → Sees own replies resp.mic → OnStep (GoodAfter own replies) (talked size talking resp)
unfolding talked
talked-good own replies size talking resp h sees =
    on-due (GoodAfter own replies) Rejected (not (rejects resp.state)) _
    (on-due (GoodAfter own replies) MechNotMine (is_chosen talking.talk.chosen resp.mech) _
    (run-good own replies size (talk_after talking.talk resp.state) talking.mech resp.state resp.token resp.mic h.list_is h.chosen sees))

-- the choice stays covered
later : (own : List MechSays) (reply : List ℕ) (replies : List (List ℕ)) (chosen : List ℕ) (outcome : Outcome) → Covered own replies chosen outcome → Covered own (reply ∷ replies) chosen outcome
later own reply replies chosen outcome (inl first) = inl first
later own reply replies chosen outcome (inr seen) = inr (inr seen)

settles-good : (own : List MechSays) (reply : List ℕ) (replies : List (List ℕ)) (signed : SignedEnd) (completes : Bool) → GoodSigned own replies signed → OnStep (GoodAfter own (reply ∷ replies)) (settles signed completes)
settles-good own reply replies signed true h = record { oid = signed.talk.chosen; chosen = h.chosen; covered = later own reply replies signed.talk.chosen signed.outcome h.covered }
settles-good own reply replies signed false h = tt

again-good : (own : List MechSays) (reply : List ℕ) (replies : List (List ℕ)) (signed : SignedEnd) (state : Option NegState) (mic : Option (List ℕ)) → GoodSigned own replies signed → OnStep (GoodAfter own (reply ∷ replies)) (looks_again signed state mic)
again-good own reply replies signed state None h = settles-good own reply replies signed (completes_later state) h
again-good own reply replies signed state (Some mic) h =
    on-if (GoodAfter own (reply ∷ replies)) (is_list_mic signed.outcome Initiator signed.talk.list mic) (settles signed (completes_later state)) (Err MicBad) (λ e. settles-good own reply replies signed (completes_later state) h) (λ e. tt)

closed-good : (own : List MechSays) (reply : List ℕ) (replies : List (List ℕ)) (signed : SignedEnd) (resp : NegResp) → GoodSigned own replies signed → OnStep (GoodAfter own (reply ∷ replies)) (closed signed resp)
unfolding closed
closed-good own reply replies signed resp h =
    on-due (GoodAfter own (reply ∷ replies)) Rejected (not (rejects resp.state)) _
    (on-due (GoodAfter own (reply ∷ replies)) MechNotMine (is_chosen signed.talk.chosen resp.mech) _ (again-good own reply replies signed resp.state resp.mic h))

-- ---- the machine

-- what a reply says of a MIC is seen in it
sees-in : (own : List MechSays) (replies : List (List ℕ)) (reply : List ℕ) (resp : NegResp) → resp_read reply ≡ Ok resp → Sees own (reply ∷ replies) resp.mic
sees-in own replies reply resp read outcome mic there right = inl (record { resp = resp; read = read; mic = mic; there = there; right = right })

-- the same of the first reply: a mechanism's own token has none
sees-first : (own : List MechSays) (replies : List (List ℕ)) (reply : List ℕ) (negotiates : Bool) (list : List (List ℕ)) (resp : NegResp) → first_read negotiates list reply ≡ Ok resp → Sees own (reply ∷ replies) resp.mic
sees-first own replies reply true list resp read = sees-in own replies reply resp read
sees-first own replies reply false list resp read = λ outcome mic there right.
    let same : bare_reply list reply ≡ resp = cc in
    absurd (let f : None ≡ Some mic = ap (λ (r : NegResp). r.mic) same ∙ there in cc)

stepped-good : (own : List MechSays) (replies : List (List ℕ)) (end : EndMeans) (reply : List ℕ) → GoodEnd own replies end → OnStep (GoodAfter own (reply ∷ replies)) (end_step end reply)
stepped-good own replies (Opens opening) reply h =
    on-read (GoodAfter own (reply ∷ replies)) (first_read opening.negotiates opening.list reply) (opened (length reply) opening)
    (λ resp e. opened-good own (reply ∷ replies) (length reply) opening resp h (sees-first own replies reply opening.negotiates opening.list resp e))
stepped-good own replies (Talks talking) reply h =
    on-read (GoodAfter own (reply ∷ replies)) (resp_read reply) (talked (length reply) talking) (λ resp e. talked-good own (reply ∷ replies) (length reply) talking resp h (sees-in own replies reply resp e))
stepped-good own replies (Signed signed) reply h =
    on-read (GoodAfter own (reply ∷ replies)) (last_read reply) (closed signed) (λ resp e. closed-good own reply replies signed resp h)

-- a fact of a start
abbrev OnStart : List MechSays → Result (EndMeans × List ℕ) NegRefusal → Type 0
OnStart own (Ok started) = GoodEnd own [] started.0
OnStart own (Err refusal) = Unit {0}

opens-good : (setup : SetupMeans) (first : MechSays) (rest : List MechSays) → setup.list ≡ first ∷ rest → (r : Result (List ℕ) NegRefusal) → OnStart setup.list (opens setup first rest r)
opens-good setup first rest e (Err refusal) = tt
opens-good setup first rest e (Ok token) = record { first = first; own_is = e; list_is = refl; oid_is = refl; kind_is = refl }

started-good : (setup : SetupMeans) (list : List MechSays) → setup.list ≡ list → OnStart setup.list (starts_first setup list)
started-good setup [] e = tt
started-good setup (first ∷ rest) e = opens-good setup first rest e (starts first setup.ask)

pub end_laws : EndLaws
end_laws = record {
  starts = λ setup started e. subst (OnStart setup.list) e (started-good setup setup.list refl);
  steps = λ own replies end reply step h e. subst (OnStep (GoodAfter own (reply ∷ replies))) e (stepped-good own replies end reply h);
}
