-- That the premises can be met: of an honest pair's exchange nothing is forged, all is fresh, and both ends complete.
use Rattle.std.proofs.Common.{◌≡◌, inl, inr, ℕ, zero, suc, ◌+◌, ◌*◌, ◌<◌, ◌≤◌, ◌^◌, lit<, true, refl, sym, ap, ◌∙◌, subst, arith, List, [], ◌∷◌, ◌++◌, length, map, replicate, take, drop, append-nil, slice_get, option_to_list, Option, Some, None, Result, Ok, Err, IfOk}
use Rattle.std.specs.Prelude.{if◌then◌else◌, Bool, false}
use Rattle.std.specs.List.{AllByRecursion}
use Rattle.std.proofs.lemmas.Option.{none-some, same_Some}
use Rattle.gss_base.specs.declared.mech.MechKind.{MechKind}
use Rattle.gss_base.specs.declared.mech.MechKind.TheVariants as kinds
use Rattle.krb_files.specs.Granted.{Granted}
use Rattle.rpc_msgs.specs.Words.{word}
use Rattle.scram_mech.specs.MechMaking.{MechMaking, AmongMakings}
use Rattle.scram_mech.specs.Secrets.{proof_of}
use Rattle.scram_mech.proofs.Masks.{length-proof}
use Rattle.spnego_core.specs.declared.accept_end.AcceptEnd.{AcceptEnd}
use Rattle.spnego_core.specs.declared.accept_end.AcceptEnd.TheVariants as ends
use Rattle.spnego_core.specs.declared.accept_end.AcceptStep.TheVariants as accept_steps
use Rattle.spnego_core.specs.declared.outcome.Outcome.{Outcome}
use Rattle.spnego_core.specs.declared.setup.AcceptSetup.{AcceptSetup}
use Rattle.spnego_core.specs.Ends.{PlainSetup, EndSays}
use Rattle.spnego_core.specs.EndSteps as init_steps
use Rattle.spnego_core.specs.Accepting.{Fixed}
use Rattle.spnego_core.specs.Choice.{is_first, is_mic_due}
use Rattle.spnego_core.specs.Exchange.{rounds_of, tokens_of}
use Rattle.spnego_core.specs.InitMech.{kinds_of, ticket_for}
use Rattle.spnego_core.specs.Initiating.{Started, own_list, init_start}
use Rattle.spnego_core.proofs.Makings.{among_split}
use Rattle.accept_core.specs.declared.entry.Entry.{Entry}
use Rattle.context_table.specs.Places.{live_of}
use Rattle.accept_book.specs.Booking.{BookOf, names_of}
use Rattle.accept_book.specs.RecordShown.{handle_of}
use Rattle.accept_core.specs.Aging.{in_use}
use Rattle.accept_core.specs.History.{Whole, opened, numbers, taken_of}
use Rattle.gss_client.specs.Session.{SessionState, xid_after}
use Rattle.gss_client.specs.Talk.{begun}
use Rattle.pair_laws.proofs.Ruling.{IsId}
use Rattle.world_laws.specs.declared.event.Happened.{Happened}
use Rattle.world_laws.specs.declared.event.Happened.TheVariants.{Sent, Completed}
use Rattle.world_laws.specs.declared.event.WorldEvent.{WorldEvent}
use Rattle.world_laws.specs.declared.event.WorldEvent.TheVariants.{Start, Deliver, Lane}
use Rattle.world_laws.specs.Stages.{StageSays}
use Rattle.world_laws.specs.Stages as stages
use Rattle.world_runs.specs.Served.{own_terms, told_width, served}
use Rattle.world_runs.specs.Carrying.{sent_in, completed_in, IsTurn}
use Rattle.world_laws.specs.Deeds.{Deed}
use Rattle.world_laws.specs.State.{InHand, Context, World}
use Rattle.world_laws.specs.Lanes.{context_with}
use Rattle.world_laws.specs.Events.{Run, Begins}
use Rattle.world_laws.specs.Below.{Below}
use Rattle.world_laws.specs.KnownList.{outcome_in, IsNoCall, LeavesUntold}
use Rattle.world_runs.specs.Meeting.{AtStart, Meeting, IsMet, Rests, IsCarried}
use Rattle.world_laws.specs.Premises.{Marking, Listed, WasMade, WasSettled, Unforged, HasTicket, session_in, Completed as CompletedWith, OnTicket, OnGuarded, Fresh, GuardedSession}
use Rattle.world_runs.specs.Showing.{Shown, Shows, Ran, Follows, Steps}
use Rattle.world_laws.proofs.Kerberos.{same-cred, not-both}
use Rattle.world_laws.proofs.ListsMet.{unforged-list}
use Rattle.world_runs.proofs.MetEvents.{world_in, Stays, Case, before, step_in, settled-passed, reply_to, call_of, Answers, answers-so, first_world, Starts, starts-so, TakesOn, takes-on, window_of, session_with, TakesLast, takes-last}
use Rattle.world_runs.proofs.MetPairs.{setting_with, Honest, count-of, honest}
use Rattle.world_runs.proofs.MetRounds.{Setting, setup_in, Marked, Heard, Took, Goes, Final, Ends, Rounds}
use Rattle.world_runs.proofs.MetSpoken.{Walked, Past, steps-on}
use Rattle.world_runs.proofs.MetStays.{stays-on, Closes, closes}
use Rattle.world_laws.proofs.ScramAgrees.{other-kind}

-- ---- one initiator, and one context

one-place : {A : Type 0} (x y : A) (i : ℕ) → slice_get (x ∷ []) i ≡ Some y → (i ≡ 0) × (y ≡ x)
one-place x y zero e = (refl, sym (same_Some x y e))
one-place x y (suc i) e = absurd (none-some y e)

same-place : {A : Type 0} (x y z : A) (i j : ℕ) → slice_get (x ∷ []) i ≡ Some y → slice_get (x ∷ []) j ≡ Some z → i ≡ j
same-place x y z i j e f = (one-place x y i e).0 ∙ sym (one-place x z j f).0

-- how an exchange ended
record Done (x : Setting) (xid : ℕ) (book : BookOf) (lanes : List (Option InHand)) (made : List MechMaking) (fixed : Fixed) (outcome : Outcome) : Type 0 where
  marked : Marked x
  setup : book.setup ≡ setup_in x
  outcome_is : fixed.outcome ≡ outcome
  final : Final x made outcome fixed.basis

-- the world then
abbrev last_world : Setting → ℕ → BookOf → List (Option InHand) → List MechMaking → Fixed → Outcome → World
last_world x xid book lanes made fixed outcome = world_in x (stages.Stands (session_with xid outcome)) book lanes made (fixed ∷ [])

the-outcome : (x : Setting) (xid : ℕ) (book : BookOf) (lanes : List (Option InHand)) (made : List MechMaking) (fixed : Fixed) (outcome other : Outcome) (i : ℕ) (own : PlainSetup) → CompletedWith (last_world x xid book lanes made fixed outcome) i own other → other ≡ outcome
the-outcome x xid book lanes made fixed outcome other i own done =
    let stage : done.stage ≡ stages.Stands (session_with xid outcome) = (one-place (stages.Stands (session_with xid outcome)) done.stage i done.stands).1 in
    sym done.outcome_is ∙ sym (ap (λ (s : SessionState). s.outcome) (same_Some (session_with xid outcome) done.session (sym (ap session_in stage) ∙ done.in_session)))

the-context : (fixed : Fixed) (context : Context) → Listed (context_with 1 fixed ∷ []) context → context ≡ context_with 1 fixed
the-context fixed context listed = (one-place (context_with 1 fixed) context listed.place listed.there).1

fresh-so : (x : Setting) (xid : ℕ) (book : BookOf) (lanes : List (Option InHand)) (made : List MechMaking) (fixed : Fixed) (outcome : Outcome) → Done x xid book lanes made fixed outcome → Fresh x.marking (last_world x xid book lanes made fixed outcome)
fresh-so x xid book lanes made fixed outcome d = record {
  credential = λ i own c t has listed session. d.marked.tickets c t (is-own i own c has) listed;
  server = λ t number etype listed there. d.marked.servers t listed ∙ sym (ap (λ (s : AcceptSetup). s.own) d.setup);
  stamps = λ i j own other a b has next session stamp. same-place x.own own other i j has.there next.there;
  subkeys = λ i j c y a b there next f g key. same-place (context_with 1 fixed) c y i j there next;
  nonces = λ i j own other a p b q has next nonce. same-place x.own own other i j has.there next.there;
  own_nonces = λ i j c y end next auth last there other f g nonce. same-place (context_with 1 fixed) c y i j there other;
  lines = λ account line marked listed named. d.marked.lines account line marked (subst (λ (s : AcceptSetup). Listed s.verifiers line) d.setup listed) named;
  proof_keys = λ c end auth last listed guarded on at.
      d.final.by_proof end on.text auth (sym (basis c listed) ∙ on.basis) on.has_auth _ last (proof_of (record { password = at.proved.password; salt = at.proved.parts.salt; rounds = at.proved.parts.rounds }) last)
      (length-proof (record { password = at.proved.password; salt = at.proved.parts.salt; rounds = at.proved.parts.rounds }) last) at.proved.handed_out;
  proof_subkeys = λ c y request end auth listed next f on either key. not-both request end on.text (sym f.basis ∙ (basis c listed ∙ (sym (basis y next) ∙ on.basis)));
  own_proofs = λ c request last listed guarded on at.
      other-kind (sym (d.final.by_request request (sym (basis c listed) ∙ on.basis)) ∙ (ap (λ (o : Outcome). o.mech) (sym (the-outcome x xid book lanes made fixed outcome at.outcome at.i at.own at.completed)) ∙ at.by_proof));
  untold = λ i own c other has done mech built. by-ticket own c (is-own i own c has) (sym (ap (λ (o : Outcome). o.mech) (the-outcome x xid book lanes made fixed outcome other i own done)) ∙ mech);
}
  where
    is-own : (i : ℕ) (own : PlainSetup) (c : Granted) → HasTicket (last_world x xid book lanes made fixed outcome) i own c → ticket_for x.own.list ≡ Some c
    is-own i own c has = subst (λ (o : PlainSetup). ticket_for o.list ≡ Some c) (one-place x.own own i has.there).1 has.is_own

    basis : (c : Context) → Listed (context_with 1 fixed ∷ []) c → c.fixed.basis ≡ fixed.basis
    basis c listed = ap (λ (z : Context). z.fixed.basis) (the-context fixed c listed)

    by-ticket : (own : PlainSetup) (c : Granted) → ticket_for x.own.list ≡ Some c → outcome.mech ≡ kinds.Kerberos → GuardedSession x.marking c.session
    by-ticket own c is mech =
        let on : OnTicket x.marking x.own = subst (λ (k : MechKind). OnGuarded x.marking x.own k) mech d.final.guarded in
        subst (λ (g : Granted). GuardedSession x.marking g.session) (same-cred x.own on.credential c on.is_own is) on.guarded

-- ---- nothing is forged

none-forged : (marking : Marking) (w : World) (deed : Deed) → deed.found ≡ [] → deed.opened ≡ None → Unforged marking w deed
none-forged marking w deed none closed = record {
  made = λ making among guarded. absurd (subst (λ (ms : List MechMaking). AmongMakings ms making) none among);
  issued = λ opened is. absurd (none-some opened (sym closed ∙ is));
}

lane-unforged : (c : Case) (deed : Deed) (new : World) → Answers c deed new → Unforged c.x.marking (before c) deed
lane-unforged c deed new a = record {
  made = λ making among guarded. inl (c.heard.found making (subst (λ (ms : List MechMaking). AmongMakings ms making) a.found among));
  issued = λ opened is. c.heard.issued opened (sym a.opened ∙ is);
}

four-octets : length (word told_width) ≡ 4
unfolding word
four-octets = refl

-- ---- the run

-- nobody called
abbrev pub NoCalls : Shown → Type 0
NoCalls shown = AllByRecursion IsNoCall shown.events

all-on : (events : List WorldEvent) (event : WorldEvent) → AllByRecursion IsNoCall events → IsNoCall event → AllByRecursion IsNoCall (events ++ event ∷ [])
all-on [] event all none = (none, tt)
all-on (first ∷ later) event all none = (all.0, all-on later event all.1 none)

none-on : (event : WorldEvent) (happened : Happened) (old shown : Shown) → Steps event (Some happened) old shown → NoCalls old → IsNoCall event → NoCalls shown
none-on event happened old shown steps all none = subst (λ (es : List WorldEvent). AllByRecursion IsNoCall es) (sym steps.events) (all-on old.events event all none)

-- a run so far, in which nothing was forged and nobody called
abbrev pub PastOf : Setting → World → Shown → World → Type 0
PastOf x start shown now = Past x.marking start shown now × NoCalls shown

-- such a run, after which the world stands so
pub record Led (shown : Shown) (kind : MechKind) : Type 0 where
  pub met : IsMet shown
  pub mech : met.outcome.mech ≡ kind
  pub rests : Rests met.now met.own met.outcome met.context
  pub uncalled : NoCalls shown

-- before a turn: the initiator handed out a token last
pub record Talks (x : Setting) (start : World) (left : ℕ) (draws : List (List ℕ)) (outcome : Outcome) (last : Happened) (shown : Shown) : Type 0 where
  id : Option ℕ
  xid : ℕ
  end : AcceptEnd
  initiator : EndSays
  token : List ℕ
  made : List MechMaking
  fixed : List Fixed
  book : BookOf
  lanes : List (Option InHand)
  stays : Stays x id end left book lanes fixed
  xids : xid + left < 2 ^ 32
  is_id : IsId id
  rounds : Rounds x draws end initiator token made fixed outcome
  short : length token ≤ 65536
  sent : last ≡ Sent (call_of xid id token)
  past : PastOf x start shown (world_in x (stages.Asks xid initiator) book lanes made fixed)

-- as the exchange came so far, with these draws left
abbrev pub StandsBy : Setting → World → MechKind → List (List ℕ) → Outcome → Happened → Shown → Type 0
StandsBy x start kind [] outcome last shown = (last ≡ Completed outcome) × Led shown kind
StandsBy x start kind (draws ∷ later) outcome last shown = Talks x start (suc (length later)) (draws ∷ later) outcome last shown

pub record Carrying (kind : MechKind) (now : ℕ) (draws : List (List ℕ)) (last : Happened) (shown : Shown) : Type 0 where
  pub x : Setting
  pub now_is : x.now ≡ now
  pub marked : Marked x
  pub start : World
  pub begins : Begins start
  pub outcome : Outcome
  pub mech : outcome.mech ≡ kind
  pub stands : StandsBy x start kind draws outcome last shown

-- ---- the lane's event

abbrev case_of : (x : Setting) (start : World) (left : ℕ) (draws : List ℕ) (rest : List (List ℕ)) (outcome : Outcome) (last : Happened) (shown : Shown) (t : Talks x start (suc left) (draws ∷ rest) outcome last shown)
    → Heard x t.end t.token (take 66 draws) t.made t.fixed → Case
case_of x start left draws rest outcome last shown t heard = record {
  x = x;
  id = t.id;
  xid = t.xid;
  end = t.end;
  initiator = t.initiator;
  token = t.token;
  draws = draws;
  made = t.made;
  fixed = t.fixed;
  book = t.book;
  lanes = t.lanes;
  left = left;
  stays = t.stays;
  heard = heard;
  xid_fits = omega (arith, t.xids);
  is_id = t.is_id;
  short = t.short;
}

-- after it
record Replied (c : Case) (start : World) (happened : Happened) (shown : Shown) : Type 0 where
  sent : happened ≡ Sent (reply_to c.xid (step_in c))
  deed : Deed
  new : World
  answers : Answers c deed new
  past : PastOf c.x start shown (world_in c.x (stages.Asks c.xid c.initiator) answers.book answers.lanes (c.made ++ c.heard.accepted.makes) (c.fixed ++ option_to_list c.heard.accepted.fixes))

replied : (c : Case) (start : World) (happened : Happened) (old shown : Shown) → PastOf c.x start old (before c) → Steps (Lane 0 (call_of c.xid c.id c.token) c.x.now c.draws) (Some happened) old shown → Replied c start happened shown
replied c start happened old shown past steps = by (steps.follows (before c) past.0.shows)
  where
    with : (f : Follows (Lane 0 (call_of c.xid c.id c.token) c.x.now c.draws) (Some happened) (before c) shown) → Answers c f.deed f.new → Replied c start happened shown
    with f a = record {
      sent = same_Some happened (Sent (reply_to c.xid (step_in c))) (sym f.answered ∙ a.answer);
      deed = f.deed;
      new = f.new;
      answers = a;
      past = (
        steps-on c.x.marking start (Lane 0 (call_of c.xid c.id c.token) c.x.now c.draws) happened (before c)
            (world_in c.x (stages.Asks c.xid c.initiator) a.book a.lanes (c.made ++ c.heard.accepted.makes) (c.fixed ++ option_to_list c.heard.accepted.fixes)) old shown past.0 steps f a.new_is (lane-unforged c f.deed f.new a),
        none-on (Lane 0 (call_of c.xid c.id c.token) c.x.now c.draws) happened old shown steps past.1 tt,
      );
    }

    by : Follows (Lane 0 (call_of c.xid c.id c.token) c.x.now c.draws) (Some happened) (before c) shown → Replied c start happened shown
    by f = with f (answers-so c happened f.deed f.new f.happens f.answered)

-- ---- a turn after which both go on

next-xid : (xid : ℕ) → xid + 1 < 2 ^ 32 → xid_after xid ≡ xid + 1
next-xid xid h = omega arith

-- the reply comes
goes-past : (x : Setting) (xid : ℕ) (initiator : EndSays) (book : BookOf) (lanes : List (Option InHand)) (made : List MechMaking) (fixed : List Fixed) (reply : List ℕ) (t : Took initiator reply made) (deed : Deed)
    → deed.found ≡ t.initiated.found → deed.opened ≡ None → Unforged x.marking (world_in x (stages.Asks xid initiator) book lanes made fixed) deed
goes-past x xid initiator book lanes made fixed reply t deed found closed = record {
  made = λ making among guarded. inl (t.found making (subst (λ (ms : List MechMaking). AmongMakings ms making) found among));
  issued = λ opened is. absurd (none-some opened (sym closed ∙ is));
}

record TookOn (x : Setting) (start : World) (xid : ℕ) (book : BookOf) (lanes : List (Option InHand)) (made : List MechMaking) (fixed : List Fixed) (makes : List MechMaking) (next : EndSays) (further : List ℕ) (happened : Happened) (shown : Shown) : Type 0 where
  sent : happened ≡ Sent (call_of (xid_after xid) (Some 1) further)
  past : PastOf x start shown (world_in x (stages.Asks (xid_after xid) next) book lanes (made ++ makes) fixed)

took-on : (x : Setting) (start : World) (xid : ℕ) (initiator : EndSays) (book : BookOf) (lanes : List (Option InHand)) (made : List MechMaking) (fixed : List Fixed) (reply : List ℕ) (t : Took initiator reply made) (next : EndSays) (further : List ℕ) → t.initiated.step ≡ init_steps.More next further
    → xid < 2 ^ 32 → length reply ≤ 65536 → (happened : Happened) (old shown : Shown) → PastOf x start old (world_in x (stages.Asks xid initiator) book lanes made fixed) → Steps (Deliver 0 (reply_to xid (accept_steps.More ends.New reply)) 1) (Some happened) old shown
    → TookOn x start xid book lanes made fixed t.initiated.makes next further happened shown
took-on x start xid initiator book lanes made fixed reply t next further more fits few happened old shown past steps = by (steps.follows (world_in x (stages.Asks xid initiator) book lanes made fixed) past.0.shows)
  where
    with : (f : Follows (Deliver 0 (reply_to xid (accept_steps.More ends.New reply)) 1) (Some happened) (world_in x (stages.Asks xid initiator) book lanes made fixed) shown) → TakesOn x xid book lanes made fixed t.initiated next further f.deed f.new
        → TookOn x start xid book lanes made fixed t.initiated.makes next further happened shown
    with f s = record {
      sent = same_Some happened (Sent (call_of (xid_after xid) (Some 1) further)) (sym f.answered ∙ s.answer);
      past = (
        steps-on x.marking start (Deliver 0 (reply_to xid (accept_steps.More ends.New reply)) 1) happened (world_in x (stages.Asks xid initiator) book lanes made fixed)
            (world_in x (stages.Asks (xid_after xid) next) book lanes (made ++ t.initiated.makes) fixed) old shown past.0 steps f s.new_is (goes-past x xid initiator book lanes made fixed reply t f.deed s.found s.opened),
        none-on (Deliver 0 (reply_to xid (accept_steps.More ends.New reply)) 1) happened old shown steps past.1 tt,
      );
    }

    by : Follows (Deliver 0 (reply_to xid (accept_steps.More ends.New reply)) 1) (Some happened) (world_in x (stages.Asks xid initiator) book lanes made fixed) shown → TookOn x start xid book lanes made fixed t.initiated.makes next further happened shown
    by f = with f (takes-on x xid initiator book lanes made fixed reply t next further more fits few f.deed f.new f.happens (λ e. none-some happened (sym e ∙ f.answered)))

-- ---- the last turn

record TookLast (x : Setting) (start : World) (xid : ℕ) (book : BookOf) (lanes : List (Option InHand)) (made : List MechMaking) (fixed : Fixed) (makes : List MechMaking) (outcome : Outcome) (happened : Happened) (shown : Shown) : Type 0 where
  completed : happened ≡ Completed outcome
  past : PastOf x start shown (last_world x xid book lanes (made ++ makes) fixed outcome)

took-last : (x : Setting) (start : World) (xid : ℕ) (initiator : EndSays) (book : BookOf) (lanes : List (Option InHand)) (made : List MechMaking) (fixed : Fixed) (reply : List ℕ) (t : Took initiator reply made) (outcome : Outcome) → t.initiated.step ≡ init_steps.Done outcome
    → fixed.outcome ≡ outcome → WasSettled book.core.history 1 → xid < 2 ^ 32 → length reply ≤ 65536 → (happened : Happened) (old shown : Shown) → PastOf x start old (world_in x (stages.Asks xid initiator) book lanes made (fixed ∷ []))
    → Steps (Deliver 0 (reply_to xid (accept_steps.Done outcome 0 reply)) 1) (Some happened) old shown
    → TookLast x start xid book lanes made fixed t.initiated.makes outcome happened shown
took-last x start xid initiator book lanes made fixed reply t outcome done outcome_is settled fits few happened old shown past steps = by (steps.follows (world_in x (stages.Asks xid initiator) book lanes made (fixed ∷ [])) past.0.shows)
  where
    the-word : (making : MechMaking) → AmongMakings (window_of outcome ∷ []) making → WasMade (world_in x (stages.Asks xid initiator) book lanes made (fixed ∷ [])) making
    the-word making (inl is) = inr (record {
      context = context_with 1 fixed;
      listed = record { place = 0; there = refl };
      settled = settled;
      word = word told_width;
      four = four-octets;
      number = 1;
      is_mic = is ∙ ap window_of (sym outcome_is);
    })
    the-word making (inr none) = absurd none

    unforged : (deed : Deed) → deed.found ≡ t.initiated.found ++ window_of outcome ∷ [] → deed.opened ≡ None → Unforged x.marking (world_in x (stages.Asks xid initiator) book lanes made (fixed ∷ [])) deed
    unforged deed found closed = record {
      made = λ making among guarded. elim (among_split t.initiated.found (window_of outcome ∷ []) making (subst (λ (ms : List MechMaking). AmongMakings ms making) found among)) [
        | inl there ↦ inl (t.found making there)
        | inr window ↦ the-word making window
      ];
      issued = λ opened is. absurd (none-some opened (sym closed ∙ is));
    }

    with : (f : Follows (Deliver 0 (reply_to xid (accept_steps.Done outcome 0 reply)) 1) (Some happened) (world_in x (stages.Asks xid initiator) book lanes made (fixed ∷ [])) shown) → TakesLast x xid book lanes made (fixed ∷ []) t.initiated outcome f.deed f.new
        → TookLast x start xid book lanes made fixed t.initiated.makes outcome happened shown
    with f s = record {
      completed = same_Some happened (Completed outcome) (sym f.answered ∙ s.answer);
      past = (
        steps-on x.marking start (Deliver 0 (reply_to xid (accept_steps.Done outcome 0 reply)) 1) happened (world_in x (stages.Asks xid initiator) book lanes made (fixed ∷ []))
            (last_world x xid book lanes (made ++ t.initiated.makes) fixed outcome) old shown past.0 steps f s.new_is (unforged f.deed s.found s.opened),
        none-on (Deliver 0 (reply_to xid (accept_steps.Done outcome 0 reply)) 1) happened old shown steps past.1 tt,
      );
    }

    by : Follows (Deliver 0 (reply_to xid (accept_steps.Done outcome 0 reply)) 1) (Some happened) (world_in x (stages.Asks xid initiator) book lanes made (fixed ∷ [])) shown → TookLast x start xid book lanes made fixed t.initiated.makes outcome happened shown
    by f = with f (takes-last x xid initiator book lanes made (fixed ∷ []) reply t outcome done fits few f.deed f.new f.happens (λ e. none-some happened (sym e ∙ f.answered)))

-- how it left the world
carried : (c : Case) (start : World) (deed : Deed) (new : World) (a : Answers c deed new) (kind : MechKind) (fixed : Fixed) (made : List MechMaking) (outcome : Outcome) (lasts : ℕ) (shown : Shown) → Begins start → Done c.x c.xid a.book a.lanes made fixed outcome → outcome.mech ≡ kind
    → fixed.lasts ≡ lasts → Closes c a.book.core.history a.book.core.limit outcome lasts → xid_after c.xid < 2 ^ 32 → PastOf c.x start shown (last_world c.x c.xid a.book a.lanes made fixed outcome) → Led shown kind
carried c start deed new a kind fixed made outcome lasts shown begins d mech lasts_is closed fits past = record {
  met = record {
    marking = c.x.marking;
    start = start;
    now = last_world c.x c.xid a.book a.lanes made fixed outcome;
    run = past.0.walked.run;
    begins = begins;
    shows = past.0.shows;
    unforged = past.0.walked.unforged;
    fresh = fresh-so c.x c.xid a.book a.lanes made fixed outcome d;
    own = c.x.own;
    outcome = outcome;
    completed = record { there = refl; stage = stages.Stands (session_with c.xid outcome); stands = refl; session = session_with c.xid outcome; in_session = refl; outcome_is = refl };
    guarded = d.final.guarded;
    context = context_with 1 fixed;
    listed = record { place = 0; there = refl };
    on = d.final.on;
    agree = d.outcome_is;
    settled = closed.settled;
  };
  mech = mech;
  rests = record {
    serves = refl;
    facts = refl;
    xid = xid_after c.xid;
    xid_fits = fits;
    stands = refl;
    idle = a.idle;
    fixed = refl;
    first = refl;
    whole = closed.whole ∙ ap (λ (n : ℕ). Whole outcome.mech (names_of outcome) n) (sym lasts_is);
    uncalled = closed.uncalled;
    place = closed.place;
  };
  uncalled = past.1;
}

-- ---- a turn

-- what a turn is of, once it is known what was sent
turn-of : (last happened : Happened) (now : ℕ) (draws call : List ℕ) (old new : Shown) → ((octets : List ℕ) → sent_in last ≡ Some octets → IsTurn octets now draws happened old new) → last ≡ Sent call → IsTurn call now draws happened old new
turn-of last happened now draws call old new turn sent = turn call (ap sent_in sent)

last-turn : (x : Setting) (start : World) (kind : MechKind) (draws : List ℕ) (outcome : Outcome) (last happened : Happened) (old new : Shown) → Marked x → Begins start → outcome.mech ≡ kind → Talks x start (suc 0) (draws ∷ []) outcome last old
    → ((octets : List ℕ) → sent_in last ≡ Some octets → IsTurn octets x.now draws happened old new) → (happened ≡ Completed outcome) × Led new kind
last-turn x start kind draws outcome last happened old new marked begins mech t turn =
    let e : Ends x t.end t.initiator t.token (take 66 draws) t.made t.fixed outcome = t.rounds in
    let c : Case = case_of x start 0 draws [] outcome last old t e.heard in
    let n = turn-of last happened x.now draws (call_of t.xid t.id t.token) old new turn t.sent in
    let p = replied c start n.answered old n.between t.past n.comes in
    let step : step_in c ≡ accept_steps.Done outcome e.lasts e.reply = settled-passed e.heard.accepted.step ∙ e.done in
    let closed = closes c p.deed p.new p.answers outcome e.lasts e.reply step in
    let xid_is : xid_after t.xid ≡ t.xid + 1 = next-xid t.xid (omega (arith, t.xids)) in
    let past : PastOf x start n.between (world_in x (stages.Asks t.xid t.initiator) p.answers.book p.answers.lanes (t.made ++ e.heard.accepted.makes) (e.context ∷ [])) =
    subst (λ (f : List Fixed). PastOf x start n.between (world_in x (stages.Asks t.xid t.initiator) p.answers.book p.answers.lanes (t.made ++ e.heard.accepted.makes) f)) e.fixes p.past in
    let came = n.goes (reply_to t.xid (step_in c)) (ap sent_in p.sent) in
    let q = took-last x start t.xid t.initiator p.answers.book p.answers.lanes (t.made ++ e.heard.accepted.makes) e.context e.reply e.took outcome e.completes e.outcome_is closed.settled (omega (arith, t.xids)) e.size happened n.between new past
    (subst (λ (os : List ℕ). Steps (Deliver 0 os 1) (Some happened) n.between new) (ap (reply_to t.xid) step) came) in
    let left : PastOf x start new (last_world x t.xid p.answers.book p.answers.lanes (t.made ++ e.heard.accepted.makes) e.context outcome) =
    subst (λ (ms : List MechMaking). PastOf x start new (last_world x t.xid p.answers.book p.answers.lanes ms e.context outcome)) (ap (λ (ms : List MechMaking). (t.made ++ e.heard.accepted.makes) ++ ms) e.none ∙ append-nil (t.made ++ e.heard.accepted.makes)) q.past in (
      q.completed,
      carried c start p.deed p.new p.answers kind e.context (t.made ++ e.heard.accepted.makes) outcome e.lasts new begins
          (record { marked = marked; setup = p.answers.notes.setup ∙ t.stays.setup; outcome_is = e.outcome_is; final = e.final }) mech e.lasts_is closed (omega (arith, xid_is, t.xids)) left,
    )

more-turn : (x : Setting) (start : World) (draws next : List ℕ) (later : List (List ℕ)) (outcome : Outcome) (last happened : Happened) (old new : Shown) → Talks x start (suc (length (next ∷ later))) (draws ∷ next ∷ later) outcome last old
    → ((octets : List ℕ) → sent_in last ≡ Some octets → IsTurn octets x.now draws happened old new) → Talks x start (suc (length later)) (next ∷ later) outcome happened new
more-turn x start draws next later outcome last happened old new t turn =
    let g : Goes x t.end t.initiator t.token (take 66 draws) t.made t.fixed = t.rounds.0 in
    let c : Case = case_of x start (length (next ∷ later)) draws (next ∷ later) outcome last old t g.heard in
    let n = turn-of last happened x.now draws (call_of t.xid t.id t.token) old new turn t.sent in
    let p = replied c start n.answered old n.between t.past n.comes in
    let step : step_in c ≡ accept_steps.More g.after g.reply = settled-passed g.heard.accepted.step ∙ g.goes in
    let xid_is : xid_after t.xid ≡ t.xid + 1 = next-xid t.xid (omega (arith, t.xids)) in
    let came = n.goes (reply_to t.xid (step_in c)) (ap sent_in p.sent) in
    let q = took-on x start t.xid t.initiator p.answers.book p.answers.lanes (t.made ++ g.heard.accepted.makes) (t.fixed ++ option_to_list g.heard.accepted.fixes) g.reply g.took g.next g.further g.more (omega (arith, t.xids)) g.size happened n.between new p.past
    (subst (λ (os : List ℕ). Steps (Deliver 0 os 1) (Some happened) n.between new) (ap (reply_to t.xid) step) came) in
    record {
      id = Some 1;
      xid = xid_after t.xid;
      end = g.after;
      initiator = g.next;
      token = g.further;
      made = (t.made ++ g.heard.accepted.makes) ++ g.took.initiated.makes;
      fixed = t.fixed ++ option_to_list g.heard.accepted.fixes;
      book = p.answers.book;
      lanes = p.answers.lanes;
      stays = stays-on c p.deed p.new p.answers g.after g.reply step;
      xids = omega (arith, xid_is, t.xids);
      is_id = lit< tt;
      rounds = t.rounds.1;
      short = g.short;
      sent = q.sent;
      past = q.past;
    }

turn-by : (x : Setting) (start : World) (kind : MechKind) (draws : List ℕ) (later : List (List ℕ)) (outcome : Outcome) (last happened : Happened) (old new : Shown) → Marked x → Begins start → outcome.mech ≡ kind → StandsBy x start kind (draws ∷ later) outcome last old
    → ((octets : List ℕ) → sent_in last ≡ Some octets → IsTurn octets x.now draws happened old new) → StandsBy x start kind later outcome happened new
turn-by x start kind draws [] outcome last happened old new marked begins mech t turn = last-turn x start kind draws outcome last happened old new marked begins mech t turn
turn-by x start kind draws (next ∷ later) outcome last happened old new marked begins mech t turn = more-turn x start draws next later outcome last happened old new t turn

pub turned : (kind : MechKind) (now : ℕ) (draws : List ℕ) (later : List (List ℕ)) (last happened : Happened) (old new : Shown) → Carrying kind now (draws ∷ later) last old
    → ((octets : List ℕ) → sent_in last ≡ Some octets → IsTurn octets now draws happened old new) → Carrying kind now later happened new
turned kind now draws later last happened old new k turn = record {
  x = k.x;
  now_is = k.now_is;
  marked = k.marked;
  start = k.start;
  begins = k.begins;
  outcome = k.outcome;
  mech = k.mech;
  stands = turn-by k.x k.start kind draws later k.outcome last happened old new k.marked k.begins k.mech k.stands
      (subst (λ (n : ℕ). (octets : List ℕ) → sent_in last ≡ Some octets → IsTurn octets n draws happened old new) (sym k.now_is) turn);
}

-- ---- before the first event

idle-lane : (lanes : ℕ) → 0 < lanes → ◌≡◌ {A = Option (Option InHand)} (slice_get {X = Option InHand} (replicate lanes None) 0) (Some None)
idle-lane zero some = absurd (omega (arith, some))
idle-lane (suc lanes) some = refl

first-is : (w : World) (facts : List PlainSetup) (ready : List StageSays) (book : BookOf) (lanes : List (Option InHand)) → w.serves ≡ served → w.facts ≡ facts → w.stages ≡ ready → w.book ≡ book → w.lanes ≡ lanes → w.fixed ≡ [] → w.makings ≡ []
    → w ≡ record { serves = served; facts = facts; stages = ready; book = book; lanes = lanes; fixed = []; makings = [] }
first-is w facts ready book lanes s a b c d e f = λ i. record { serves = s i; facts = a i; stages = b i; book = c i; lanes = d i; fixed = e i; makings = f i }

-- an exchange has a token, and four at most
few-tokens : (first due : Bool) (kind : MechKind) → ((if first then 0 else 1) + rounds_of kind + (if due then 1 else 0) ≤ 4) × (1 ≤ (if first then 0 else 1) + rounds_of kind + (if due then 1 else 0))
few-tokens true true kinds.Kerberos = (omega arith, omega arith)
few-tokens true false kinds.Kerberos = (omega arith, omega arith)
few-tokens false true kinds.Kerberos = (omega arith, omega arith)
few-tokens false false kinds.Kerberos = (omega arith, omega arith)
few-tokens true true kinds.Scram = (omega arith, omega arith)
few-tokens true false kinds.Scram = (omega arith, omega arith)
few-tokens false true kinds.Scram = (omega arith, omega arith)
few-tokens false false kinds.Scram = (omega arith, omega arith)

-- what is known before it
record Ready (shown : Shown) (book : BookOf) (lanes now : ℕ) (draws : List (List ℕ)) (own : PlainSetup) (kind : MechKind) (started : Started) : Type 0 where
  start : World
  begins : Begins start
  start_is : start ≡ record { serves = served; facts = own ∷ []; stages = stages.Ready own ∷ []; book = book; lanes = replicate lanes None; fixed = []; makings = [] }
  shows : Shows start shown
  none : shown.events ≡ []

ready-so : (shown : Shown) (book : BookOf) (lanes now : ℕ) (draws : List (List ℕ)) → AtStart shown book lanes → (m : Meeting book shown.facts lanes now draws) → Ran shown → Ready shown book lanes now draws m.own m.kind m.pair.started
ready-so shown book lanes now draws start m r =
    let same : r.now ≡ r.start = subst (λ (es : List WorldEvent). Run r.start es r.now) start.nothing r.run in
    let begun : Begins r.now = subst Begins (sym same) r.begins in
    let facts : r.now.facts ≡ m.own ∷ [] = sym r.shows.facts ∙ m.one in
    record {
      start = r.now;
      begins = begun;
      start_is = first-is r.now (m.own ∷ []) (stages.Ready m.own ∷ []) book (replicate lanes None) r.shows.serves facts (sym r.shows.stages ∙ (start.ready ∙ ap (map stages.Ready) m.one))
          (sym (same_Some book r.now.book (sym start.book_is ∙ r.shows.book))) (sym r.shows.lanes ∙ start.idle) begun.unfixed begun.unmade;
      shows = r.shows;
      none = start.nothing;
    }

-- the initiator starts
record Sent_first (x : Setting) (start : World) (started : Started) (lanes : List (Option InHand)) (happened : Happened) (shown : Shown) : Type 0 where
  sent : happened ≡ Sent (call_of 1 None started.token)
  past : PastOf x start shown (world_in x (stages.Asks 1 started.end) x.book lanes started.makes [])

started-so : (x : Setting) (started : Started) (lanes : List (Option InHand)) (happened : Happened) (old shown : Shown) → init_start x.own ≡ Ok started → PastOf x (first_world x lanes) old (first_world x lanes) → Steps (Start 0) (Some happened) old shown
    → Sent_first x (first_world x lanes) started lanes happened shown
started-so x started lanes happened old shown begins past steps = by (steps.follows (first_world x lanes) past.0.shows)
  where
    with : (f : Follows (Start 0) (Some happened) (first_world x lanes) shown) → Starts x started lanes f.deed f.new → Sent_first x (first_world x lanes) started lanes happened shown
    with f s = record {
      sent = same_Some happened (Sent (call_of 1 None started.token)) (sym f.answered ∙ s.answer);
      past = (
        steps-on x.marking (first_world x lanes) (Start 0) happened (first_world x lanes) (world_in x (stages.Asks 1 started.end) x.book lanes started.makes []) old shown past.0 steps f s.new_is (none-forged x.marking (first_world x lanes) f.deed s.found s.opened),
        none-on (Start 0) happened old shown steps past.1 tt,
      );
    }

    by : Follows (Start 0) (Some happened) (first_world x lanes) shown → Sent_first x (first_world x lanes) started lanes happened shown
    by f = with f (starts-so x started lanes f.deed f.new begins f.happens (λ e. none-some happened (sym e ∙ f.answered)))

-- and there is a first turn
talks-first : (book : BookOf) (lanes now : ℕ) (draws : List (List ℕ)) (own : PlainSetup) (kind : MechKind) (started : Started) (h : Honest book own kind now draws started) (happened : Happened) (shown : Shown)
    → book.core.history ≡ [] → 0 < lanes → live_of book.core.table < book.core.table.limit → length book.core.history + 2 + 2 * length draws ≤ book.core.limit → length draws ≤ 4 → 1 ≤ length draws → length started.token ≤ 65536
    → Sent_first (setting_with book own now h.marking) (first_world (setting_with book own now h.marking) (replicate lanes None)) started (replicate lanes None) happened shown
    → StandsBy (setting_with book own now h.marking) (first_world (setting_with book own now h.marking) (replicate lanes None)) kind draws h.outcome happened shown
talks-first book lanes now [] own kind started h happened shown empty some table log few one short s = absurd (omega (arith, one))
talks-first book lanes now (draws ∷ later) own kind started h happened shown empty some table log few one short s = record {
  id = None;
  xid = 1;
  end = ends.New;
  initiator = started.end;
  token = started.token;
  made = started.makes;
  fixed = [];
  book = book;
  lanes = replicate lanes None;
  stays = record {
    idle = idle-lane lanes some;
    setup = refl;
    comes = refl;
    own = ap (λ (es : List Entry). opened es + 1) empty;
    few = λ none. table;
    room = omega (arith, log);
    uncalled = ap (numbers 1) empty;
    unused = ap in_use empty;
    untaken = λ none. ap taken_of empty;
    capacity = refl;
    greatest = refl;
  };
  xids = omega (arith, few);
  is_id = tt;
  rounds = h.rounds;
  short = short;
  sent = s.sent;
  past = s.past;
}

pub starts : (shown one : Shown) (book : BookOf) (lanes now : ℕ) (draws : List (List ℕ)) → AtStart shown book lanes → (m : Meeting book shown.facts lanes now draws) → Ran shown → (happened : Happened) → Steps (Start 0) (Some happened) shown one → Carrying m.kind now draws happened one
starts shown one book lanes now draws start m ran happened steps =
    let r = ready-so shown book lanes now draws start m ran in
    let h = honest book m.own m.kind now draws (ap taken_of start.empty) m.pair m.ready in
    let x : Setting = setting_with book m.own now h.marking in
    let begins : Begins (first_world x (replicate lanes None)) = subst Begins r.start_is r.begins in
    let past : PastOf x (first_world x (replicate lanes None)) shown (first_world x (replicate lanes None)) = (
      record {
        walked = subst (λ (es : List WorldEvent). Walked x.marking (first_world x (replicate lanes None)) es (first_world x (replicate lanes None))) (sym r.none) (record { run = refl; unforged = tt });
        shows = subst (λ (w : World). Shows w shown) r.start_is r.shows;
      },
      subst (λ (es : List WorldEvent). AllByRecursion IsNoCall es) (sym r.none) tt,
    ) in
    let s = started-so x m.pair.started (replicate lanes None) happened shown one m.pair.starts past steps in
    let count : length draws ≡ tokens_of book.setup m.own m.kind = sym (count-of now draws) ∙ m.pair.counted in
    let few = few-tokens (is_first (kinds_of m.own.list) m.kind) (is_mic_due book.setup.offer (own_list m.own) m.kind) m.kind in
    record {
      x = x;
      now_is = refl;
      marked = h.marked;
      start = first_world x (replicate lanes None);
      begins = begins;
      outcome = h.outcome;
      mech = h.mech;
      stands = talks-first book lanes now draws m.own m.kind m.pair.started h happened one start.empty m.lane m.table m.log (omega (arith, count, few.0)) (omega (arith, count, few.1)) m.pair.short s;
    }

-- ---- as a program sees it

pub drop-one : {A : Type 0} (xs : List A) (i : ℕ) (y : A) → slice_get xs i ≡ Some y → drop i xs ≡ y ∷ drop (i + 1) xs
drop-one [] i y e = absurd (none-some y e)
drop-one (z ∷ zs) zero y e = let n : 1 ≡ 0 + 1 = omega arith in subst (λ (k : ℕ). z ∷ zs ≡ y ∷ drop k (z ∷ zs)) n (λ i. same_Some z y e i ∷ zs)
drop-one (z ∷ zs) (suc i) y e = let n : suc (i + 1) ≡ suc i + 1 = omega arith in subst (λ (k : ℕ). drop i zs ≡ y ∷ drop k (z ∷ zs)) n (drop-one zs i y e)

pub drop-whole : {A : Type 0} (xs : List A) (i : ℕ) → length xs ≤ i → drop i xs ≡ []
drop-whole [] zero e = refl
drop-whole [] (suc i) e = refl
drop-whole (z ∷ zs) zero e = absurd (omega (arith, e))
drop-whole (z ∷ zs) (suc i) e = drop-whole zs i (omega (arith, e))

-- what the two events of a turn show
turn-at : (last answered happened : Happened) (now : ℕ) (draws octets : List ℕ) (old between new : Shown) → sent_in last ≡ Some octets → Steps (Lane 0 octets now draws) (Some answered) old between
    → ((reply : List ℕ) → sent_in answered ≡ Some reply → Steps (Deliver 0 reply 1) (Some happened) between new) → (other : List ℕ) → sent_in last ≡ Some other → IsTurn other now draws happened old new
turn-at last answered happened now draws octets old between new sent comes goes other e = record {
  answered = answered;
  between = between;
  comes = subst (λ (os : List ℕ). Steps (Lane 0 os now draws) (Some answered) old between) (same_Some octets other (sym sent ∙ e)) comes;
  goes = goes;
}

pub turns-alone : (last answered happened : Happened) (now : ℕ) (draws octets : List ℕ) (old between : Shown) → sent_in last ≡ Some octets → Steps (Lane 0 octets now draws) (Some answered) old between → sent_in answered ≡ None
    → (other : List ℕ) → sent_in last ≡ Some other → IsTurn other now draws happened old between
turns-alone last answered happened now draws octets old between sent comes none = turn-at last answered happened now draws octets old between between sent comes (λ reply e. absurd (none-some reply (sym none ∙ e)))

pub turns-both : {E : Type 0} (last answered : Happened) (now : ℕ) (draws octets reply : List ℕ) (old between new : Shown) (r : Result Happened E) → sent_in last ≡ Some octets → Steps (Lane 0 octets now draws) (Some answered) old between → sent_in answered ≡ Some reply
    → IfOk r (λ happened. Steps (Deliver 0 reply 1) (Some happened) between new) → IfOk r (λ happened. (other : List ℕ) → sent_in last ≡ Some other → IsTurn other now draws happened old new)
turns-both last answered now draws octets reply old between new (Ok happened) sent comes replied goes =
    turn-at last answered happened now draws octets old between new sent comes (λ one e. subst (λ (os : List ℕ). Steps (Deliver 0 os 1) (Some happened) between new) (same_Some reply one (sym replied ∙ e)) goes)
turns-both last answered now draws octets reply old between new (Err error) sent comes replied goes = tt

-- both completed
pub is-completed : (kind : MechKind) (now : ℕ) (last : Happened) (shown : Shown) → Carrying kind now [] last shown → completed_in last ≡ true
is-completed kind now last shown k = ap completed_in k.stands.0

-- and the run leaves nothing to be told of the list
the-stage : (w : World) (own : PlainSetup) (outcome : Outcome) (context : Context) (r : Rests w own outcome context) (i : ℕ) (stage : StageSays) → slice_get w.stages i ≡ Some stage → stage ≡ stages.Stands (begun own_terms 1 r.xid outcome (handle_of context.id))
the-stage w own outcome context r i stage there = (one-place (stages.Stands (begun own_terms 1 r.xid outcome (handle_of context.id))) stage i (subst (λ (xs : List StageSays). slice_get xs i ≡ Some stage) r.stands there)).1

not-over : (s : SessionState) → stages.Over ≡ stages.Stands s → ⊥
not-over s e = cc

leaves : (shown : Shown) (kind : MechKind) (l : Led shown kind) → LeavesUntold l.met.marking l.met.now
leaves shown kind l = record {
  lasting = λ i over. not-over _ (the-stage l.met.now l.met.own l.met.outcome l.met.context l.rests i stages.Over over);
  untold = λ i own outcome f built. guarded own outcome
      (one-place l.met.own own i (subst (λ (xs : List PlainSetup). slice_get xs i ≡ Some own) l.rests.facts f.there)).1
      (same_Some outcome l.met.outcome (sym f.finished ∙ ap outcome_in (the-stage l.met.now l.met.own l.met.outcome l.met.context l.rests i f.stage f.stands)));
  apart = λ i j x y end next auth last there other on also marked key.
      same-place l.met.context x y i j (subst (λ (xs : List Context). slice_get xs i ≡ Some x) l.rests.fixed there) (subst (λ (xs : List Context). slice_get xs j ≡ Some y) l.rests.fixed other);
}
  where
    guarded : (own : PlainSetup) (outcome : Outcome) → own ≡ l.met.own → outcome ≡ l.met.outcome → OnGuarded l.met.marking own outcome.mech
    guarded own outcome is same = subst (λ (o : PlainSetup). OnGuarded l.met.marking o outcome.mech) (sym is) (subst (λ (o : Outcome). OnGuarded l.met.marking l.met.own o.mech) (sym same) l.met.guarded)

carried-so : Below → (shown : Shown) (kind : MechKind) → Led shown kind → IsCarried shown kind
carried-so laws shown kind l = record {
  met = l.met;
  unforged_list = unforged-list laws l.met.marking l.met.start shown.events l.met.now l.met.run l.met.begins l.met.unforged l.uncalled (leaves shown kind l);
  mech = l.mech;
  rests = l.rests;
}

pub is-carried : Below → (kind : MechKind) (now : ℕ) (last : Happened) (shown : Shown) → Carrying kind now [] last shown → IsCarried shown kind
is-carried laws kind now last shown k = carried-so laws shown kind k.stands.1
