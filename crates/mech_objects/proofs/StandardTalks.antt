-- What holds of the objects of Kerberos and SCRAM.
use Rattle.std.proofs.Common.{rules, ◌≡◌, List, [], ℕ, Option, Some, None, Result, Ok, Err, refl, map, ap, ◌∙◌}
use Rattle.std.specs.Prelude.{option_map}
use Rattle.gss_base.specs.declared.mech.MechKind.TheVariants.{Kerberos, Scram}
use Rattle.krb_tokens.specs.declared.done.MechDone.{MechDone}
use Rattle.ap_exchange.specs.declared.refusal.ApRefusal.{ApRefusal}
use Rattle.ap_exchange.specs.Reply.{reply_taken, reply_found}
use Rattle.scram_mech.specs.declared.refusal.ScramRefusal.{ScramRefusal}
use Rattle.scram_mech.specs.MechMaking.{MechMaking, typed}
use Rattle.scram_mech.specs.Initiator.{InitAnswered, InitFinished, init_answered, init_finished}
use Rattle.spnego_core.specs.MechStates.{InitMech}
use Rattle.spnego_core.specs.MechStates as mechs
use Rattle.spnego_core.specs.declared.setup.MechCred.{MechCred}
use Rattle.spnego_core.specs.InitMech as inits
use Rattle.spnego_core.specs.InitMech.{init_taken, replied}
use Rattle.mech_objects.specs.declared.ask.MechAsk.{MechAsk}
use Rattle.mech_objects.specs.Meaning.{MechSays, MechTalk, as_end, first_by, next_by, starts, takes}
use Rattle.mech_objects.specs.Standard.{begun, state_begun, token_begun, state_of, state_by, answered, object_state}
use Rattle.mech_objects.specs.Standard.{move_answered, move_by, standard}
use Rattle.mech_objects.specs.Standard.{reply_answered, text_answered, final_answered}
use Rattle.mech_objects.specs.Laws.{kind_in, outcome_answered, StandardLaws}
use Rattle.mech_objects.proofs.Steps.{of_more, by_more}

-- the state of an object that began
begins_by : (cred : Option MechCred) (own : MechCred) (ask : MechAsk)
    → cred ≡ Some own → state_by cred (Some ask) [] ≡ state_begun (begun own ask)
unfolding state_of
begins_by None own ask e = search (rules, e)
begins_by (Some cred) own ask e = search (rules, e)

-- what an object says by its credential
first_standard : (cred : Option MechCred) (own : MechCred) (ask : MechAsk) → cred ≡ Some own
    → first_by (option_map standard cred) ask ≡ as_end (token_begun (begun own ask))
first_standard None own ask e = search (rules, e)
first_standard (Some cred) own ask e = search (rules, e)

next_standard : (cred : Option MechCred) (ask : Option MechAsk) (taken : List (List ℕ)) (state : InitMech) (token : List ℕ)
    → state_by cred ask taken ≡ Some state
    → next_by (option_map standard cred) ask taken token ≡ as_end (move_answered (answered state token))
next_standard None ask taken state token e = search (rules, e)
next_standard (Some cred) None taken state token e = search (rules, e)
next_standard (Some cred) (Some ask) taken state token e = ap (λ s. as_end (move_by s token)) e

starts_by : (m : MechSays) (cred : MechCred) (ask : MechAsk)
    → m.says ≡ standard → m.cred ≡ Some cred
    → starts m ask ≡ as_end (token_begun (begun cred ask))
starts_by m cred ask is_standard e =
    ap (λ (says : MechCred → MechTalk). first_by (option_map says m.cred) ask) is_standard
    ∙ first_standard m.cred cred ask e

takes_by : (m : MechSays) (state : InitMech) (token : List ℕ)
    → m.says ≡ standard → object_state m ≡ Some state
    → takes m token ≡ as_end (move_answered (answered state token))
takes_by m state token is_standard e =
    ap (λ (says : MechCred → MechTalk). next_by (option_map says m.cred) m.ask m.taken token) is_standard
    ∙ next_standard m.cred m.ask m.taken state token e

-- what each exchange answers, as the negotiating end gives it
by_reply : (found : List MechMaking) (made : Result MechDone ApRefusal)
    → replied (inits.reply_answered found made)
    ≡ outcome_answered Kerberos (reply_answered made)
by_reply found (Ok made) = refl
by_reply found (Err refusal) = refl

by_text : (made : Result InitAnswered ScramRefusal)
    → replied (inits.text_answered made) ≡ outcome_answered Scram (text_answered made)
by_text (Ok made) = refl
by_text (Err refusal) = refl

by_final : (made : Result InitFinished ScramRefusal)
    → replied (inits.final_answered made) ≡ outcome_answered Scram (final_answered made)
by_final (Ok made) = refl
by_final (Err refusal) = refl

answers : (state : InitMech) (token : List ℕ)
    → replied (init_taken state token) ≡ outcome_answered (kind_in state) (answered state token)
unfolding init_taken answered
answers (mechs.Kerberos end) token =
    by_reply (map typed (reply_found end token)) (reply_taken end token)
answers (mechs.Scram end) token = by_text (init_answered end token)
answers (mechs.Proof end) token = by_final (init_finished end token)

pub standard_laws : StandardLaws
standard_laws = record {
  starts_by = starts_by;
  begins = λ m cred ask token e. begins_by m.cred cred ask e;
  goes_on = λ m token octets. by_more m.cred m.ask m.taken token;
  takes_on = of_more;
  takes_by = takes_by;
  answers = answers;
}
