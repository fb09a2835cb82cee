-- A whole talk of calls that may differ: the creation, and the calls behind it.
use Rattle.std.proofs.Common.{◌≡◌, ◌≢◌, inl, inr, ℕ, Bool, List, [], ◌++◌, refl, ap, subst, sym, ◌∙◌, append_assoc, Some, None, Result, Ok, Err}
use Rattle.std.proofs.lemmas.List.{append-nil}
use Rattle.sec_base.specs.Link.{Wire}
use Rattle.aes_cts.proofs.Restored.{replicate-IsOctets}
use Rattle.spnego_core.specs.declared.outcome.Outcome.{Outcome}
use Rattle.gss_client.specs.declared.conversation.Parting.{Parting}
use Rattle.gss_client.specs.declared.conversation.Parting.TheVariants.{Refused}
use Rattle.gss_client.specs.declared.refusal.ClientRefusal.{ClientRefusal}
use Rattle.gss_client.specs.declared.refusal.ClientRefusal.TheVariants.{LinkFault, NoMemory}
use Rattle.gss_client.specs.Conversation.{Talk, by_session}
use Rattle.gss_client.specs.Conversing.{IsFront}
use Rattle.gss_client.specs.Exchanging.{Done, Stopped}
use Rattle.gss_client.specs.Session.{SessionState}
use Rattle.gss_client.specs.Talking.{Said, Talking}
use Rattle.gss_client.proofs.Parts.{went-again}
use Rattle.gss_client.specs.Conferring.{DueCall, confers, by_opening, talk_behind}
use Rattle.gss_client.specs.Holding.{ConferredOf, TalkedBehind}

-- what the talk says of the creation
abbrev by_said : List DueCall → List ℕ → Said SessionState → Talk
by_said every draws one = by_opening every draws one.written one.rest one.answer

talk-is : (creation : Talking SessionState) (every : List DueCall) (draws stream : List ℕ) → talk_behind creation every draws stream ≡ by_said every draws (creation stream)
unfolding talk_behind
talk-is creation every draws stream = refl

conversed-then : (tells : Bool) (given given' : List ℕ) (creation : Talking SessionState) (every : List DueCall) (a b c : Wire) (s : SessionState) (results : List (List ℕ)) (parting : Parting) (later : List ℕ) (d : Done creation a b s) (f : ConferredOf tells given given' every s b c results parting)
    → talk_behind creation every (f.drawn ++ later) ((d.took ++ f.took) ++ c.coming) ≡ by_session d.wrote (Some s.outcome) (confers every s (f.drawn ++ later) (f.took ++ c.coming))
conversed-then tells given given' creation every a b c s results parting later d f =
    talk-is creation every (f.drawn ++ later) ((d.took ++ f.took) ++ c.coming)
    ∙ ap (by_said every (f.drawn ++ later)) (ap creation (append_assoc d.took f.took c.coming) ∙ d.whole (f.took ++ c.coming))

held : (tells : Bool) (given given' : List ℕ) (creation : Talking SessionState) (every : List DueCall) (a b c : Wire) (s : SessionState) (results : List (List ℕ)) (parting : Parting) → Done creation a b s → ConferredOf tells given given' every s b c results parting → TalkedBehind tells given given' creation every a c (Some s.outcome) results parting
held tells given given' creation every a b c s results parting d f =
    let all : (later : List ℕ) → talk_behind creation every (f.drawn ++ later) ((d.took ++ f.took) ++ c.coming) ≡ by_session d.wrote (Some s.outcome) (confers every s (f.drawn ++ later) (f.took ++ c.coming)) =
    λ later. conversed-then tells given given' creation every a b c s results parting later d f in
    record {
      took = d.took ++ f.took;
      wrote = d.wrote ++ f.wrote;
      drawn = f.drawn;
      octets = f.octets;
      went = went-again d.went f.went;
      draws = f.draws;
      front = λ later. record {
        written = ((f.front later).0.0, ap (λ (t : Talk). t.written) (all later) ∙ (ap (λ (zs : List ℕ). d.wrote ++ zs) (f.front later).0.1 ∙ sym (append_assoc d.wrote f.wrote (f.front later).0.0)));
        outcome_is = inr (ap (λ (t : Talk). t.outcome) (all later));
        results_are = ((f.front later).1.0, ap (λ (t : Talk). t.results) (all later) ∙ (f.front later).1.1);
      };
      whole = λ fault memory later. record {
        written = ap (λ (t : Talk). t.written) (all later) ∙ ap (λ (zs : List ℕ). d.wrote ++ zs) (f.whole fault memory later).written;
        outcome_is = ap (λ (t : Talk). t.outcome) (all later);
        results_are = ap (λ (t : Talk). t.results) (all later) ∙ (f.whole fault memory later).results_are;
        parts = ap (λ (t : Talk). t.parting) (all later) ∙ (f.whole fault memory later).parts;
        undrawn_is = ap (λ (t : Talk). t.undrawn) (all later) ∙ (f.whole fault memory later).undrawn_is;
      };
      heard = λ unrefused later. ap (λ (t : Talk). t.rest) (all later) ∙ f.heard unrefused later;
    }

pub talked : (tells : Bool) (given given' : List ℕ) (creation : Talking SessionState) (every : List DueCall) (a b c : Wire) (s : SessionState) (outcome : Outcome) → outcome ≡ s.outcome → (results : List (List ℕ)) (parting : Parting) → Done creation a b s → ConferredOf tells given given' every s b c results parting → TalkedBehind tells given given' creation every a c (Some outcome) results parting
talked tells given given' creation every a b c s outcome is results parting d f =
    subst (λ (o : Outcome). TalkedBehind tells given given' creation every a c (Some o) results parting) (sym is) (held tells given given' creation every a b c s results parting d f)

-- what the creation wrote is a front of what the talk writes
further : (every : List DueCall) (draws written rest : List ℕ) (answer : Result SessionState ClientRefusal) → IsFront written (by_opening every draws written rest answer).written
further every draws written rest (Ok s) = ((confers every s draws rest).written, refl)
further every draws written rest (Err refusal) = ([], sym (append-nil written))

unheld : (tells : Bool) (given : List ℕ) (creation : Talking SessionState) (every : List DueCall) (a c : Wire) (refusal : ClientRefusal) → Stopped creation a c refusal → TalkedBehind tells given given creation every a c None [] (Refused refusal)
unheld tells given creation every a c refusal d =
    let one : Said SessionState = creation (d.took ++ c.coming) in
    let all : (later : List ℕ) → talk_behind creation every later (d.took ++ c.coming) ≡ by_said every later one =
    λ later. talk-is creation every later (d.took ++ c.coming) in
    let none : (refusal ≢ LinkFault) → (refusal ≢ NoMemory) → (later : List ℕ) → talk_behind creation every later (d.took ++ c.coming) ≡ record { written = one.written; outcome = None; results = []; parting = Refused refusal; undrawn = later; rest = one.rest } =
    λ fault memory later. all later ∙ ap (by_opening every later one.written one.rest) (d.cause fault memory) in
    record {
      took = d.took;
      wrote = d.wrote;
      drawn = [];
      octets = replicate-IsOctets 0;
      went = d.went;
      draws = λ t. sym (append-nil given);
      front = λ later.
          let f : IsFront one.written (by_said every later one).written = further every later one.written one.rest one.answer in
          record {
            written = (d.front.0 ++ f.0, ap (λ (t : Talk). t.written) (all later) ∙ (f.1 ∙ (ap (λ (zs : List ℕ). zs ++ f.0) d.front.1 ∙ append_assoc d.wrote d.front.0 f.0)));
            outcome_is = inl refl;
            results_are = ((talk_behind creation every later (d.took ++ c.coming)).results, refl);
          };
      whole = λ fault memory later.
          let lf : refusal ≢ LinkFault = λ is. fault (ap Refused is) in
          let lm : refusal ≢ NoMemory = λ is. memory (ap Refused is) in
          record {
            written = ap (λ (t : Talk). t.written) (none lf lm later) ∙ sym (d.whole lf lm);
            outcome_is = ap (λ (t : Talk). t.outcome) (none lf lm later);
            results_are = ap (λ (t : Talk). t.results) (none lf lm later);
            parts = ap (λ (t : Talk). t.parting) (none lf lm later);
            undrawn_is = ap (λ (t : Talk). t.undrawn) (none lf lm later);
          };
      heard = λ unrefused. absurd (unrefused refusal refl);
    }

pub untalked : (tells : Bool) (given : List ℕ) (creation : Talking SessionState) (every : List DueCall) (a c : Wire) (refusal : ClientRefusal) (results : List (List ℕ)) → results ≡ [] → Stopped creation a c refusal → TalkedBehind tells given given creation every a c None results (Refused refusal)
untalked tells given creation every a c refusal results none d = subst (λ (rs : List (List ℕ)). TalkedBehind tells given given creation every a c None rs (Refused refusal)) (sym none) (unheld tells given creation every a c refusal d)
