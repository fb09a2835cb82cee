-- An admission is due of a call of data alone.
use Rattle.std.proofs.Common.{◌≡◌, ℕ, Bool, true, false, refl, sym, ◌∙◌, subst, List, length, Option, Some, None, Result, Ok, Err}
use Rattle.std.specs.Prelude.{◌==◌, ◌||◌, ◌&&◌, not, if◌then◌else◌}
use Rattle.std.proofs.lemmas.Option.{none-some}
use Rattle.rpc_msgs.specs.Calls.{CallValue, call_at}
use Rattle.rpc_msgs.specs.declared.xdr_reader.XdrRefusal.{XdrRefusal}
use Rattle.rpcsec_msgs.specs.Cred.{CredValue, cred_at}
use Rattle.accept_book.specs.Served.{one_opaque}
use Rattle.accept_core.specs.declared.answer.AdmitRefusal.{AdmitRefusal}
use Rattle.accept_core.specs.declared.answer.AdmitRefusal.TheVariants as admits
use Rattle.accept_core.specs.declared.answer.LookRefusal.{LookRefusal}
use Rattle.accept_core.specs.declared.answer.LookRefusal.TheVariants as looks
use Rattle.accept_book.specs.declared.book_answer.Lease.{Lease}
use Rattle.accept_book.specs.declared.book_answer.Negotiated.{Negotiated}
use Rattle.accept_book.specs.declared.book_answer.Admitted.{Admitted}
use Rattle.rpc_program.specs.Programs.{Serving}
use Rattle.rpcsec_bodies.specs.declared.service.Service.{Service}
use Rattle.accept_core.specs.declared.entry.Receipt.{Receipt}
use Rattle.accept_book.specs.RecordShown.{KeptAnswers, Admit, Ruling, Shown, handle_id, is_verified}
use Rattle.accept_book.specs.RecordRule.{is_other_program, is_other_version_of_it, is_no_procedure, is_misplaced, plain_ruling, ask_step, continued, token_ruling, creation_ruling, unadmitted, data_ruling, ask_end, destroy_ruling, looked_ruling, ask_look, id_ruling, cred_ruling, call_ruling, read_ruling, record_ruling}
use Rattle.world_laws.proofs.Due.{shown, stepped-due}

-- no admission is due
record NoAdmission (r : Ruling) : Type 0 where
  none : (lease : Lease) (seq : ℕ) (service : Service) (procedure : ℕ) (args : List ℕ) → r.due ≡ Some (Admit lease seq service procedure args) → ⊥

no-question : (r : Ruling) → r.due ≡ None → NoAdmission r
no-question r e = record { none = λ lease seq service procedure args due. none-some (Admit lease seq service procedure args) (sym e ∙ due) }

either : (b : Bool) (x y : Ruling) → NoAdmission x → NoAdmission y → NoAdmission (if b then x else y)
either true x y p q = p
either false x y p q = q

-- a row that decides, and what stands behind it
behind : (b : Bool) (x y : Ruling) → x.due ≡ None → NoAdmission y → NoAdmission (if b then x else y)
behind b x y e q = either b x y (no-question x e) q

of-plain : (s : Shown) → NoAdmission (plain_ruling s)
unfolding plain_ruling
of-plain s =
    behind (is_other_program s) _ _ refl
    (behind (is_other_version_of_it s) _ _ refl
    (behind (is_no_procedure s) _ _ refl (behind (not (s.call.procedure == 0)) _ _ refl (behind (not (length s.call.args == 0)) _ _ refl (no-question _ refl)))))

of-step : (s : Shown) (id : Option ℕ) (token : List ℕ) (found : Option Negotiated) → NoAdmission (ask_step s id token found)
of-step s id token None = record { none = λ lease seq service procedure args due. absurd cc }
of-step s id token (Some n) = no-question _ (stepped-due s n.answer)

of-continued : (s : Shown) (token : List ℕ) (found : Option Negotiated) (id : Option ℕ) → NoAdmission (continued s token found id)
of-continued s token found None = no-question _ refl
of-continued s token found (Some id) = of-step s (Some id) token found

of-token : (s : Shown) (cred : CredValue) (found : Option Negotiated) (token : Result (List ℕ) XdrRefusal) → NoAdmission (token_ruling s cred found token)
of-token s cred found (Err refusal) = no-question _ refl
of-token s cred found (Ok token) = either (cred.proc == 1) _ _ (of-step s None token found) (of-continued s token found (handle_id cred.context))

of-creation : (s : Shown) (cred : CredValue) (found : Option Negotiated) → NoAdmission (creation_ruling s cred found)
unfolding creation_ruling
of-creation s cred found =
    behind (is_other_program s) _ _ refl (behind (is_other_version_of_it s) _ _ refl (of-token s cred found (one_opaque s.call.args)))

unadmitted-none : (s : Shown) (cred : CredValue) (lease : Lease) (refusal : AdmitRefusal) → (unadmitted s cred lease refusal).due ≡ None
unadmitted-none s cred lease admits.Gone = refl
unadmitted-none s cred lease admits.AboveMax = refl
unadmitted-none s cred lease (admits.Below last) = refl
unadmitted-none s cred lease admits.Repeat = refl
unadmitted-none s cred lease admits.LogFull = refl

of-end : (s : Shown) (cred : CredValue) (own : Lease) (found : Option (Result Receipt AdmitRefusal)) → NoAdmission (ask_end s cred own found)
of-end s cred own None = record { none = λ lease seq service procedure args due. absurd cc }
of-end s cred own (Some (Ok receipt)) = no-question _ refl
of-end s cred own (Some (Err refusal)) = no-question _ (unadmitted-none s cred own refusal)

of-destroy : (s : Shown) (cred : CredValue) (lease : Lease) (found : Option (Result Receipt AdmitRefusal)) → NoAdmission (destroy_ruling s cred lease found)
unfolding destroy_ruling
of-destroy s cred lease found =
    behind (not (is_verified s lease)) _ _ refl (behind (is_other_program s) _ _ refl (behind (is_other_version_of_it s) _ _ refl (of-end s cred lease found)))

-- ---- a call that isn't of data

of-lease : (s : Shown) (cred : CredValue) (admitted : Option (Result Admitted AdmitRefusal)) (ended : Option (Result Receipt AdmitRefusal)) (lease : Lease) (b : Bool) → b ≡ false
    → NoAdmission (if b then data_ruling s cred lease admitted else destroy_ruling s cred lease ended)
of-lease s cred admitted ended lease true e = absurd cc
of-lease s cred admitted ended lease false e = of-destroy s cred lease ended

of-looked : (s : Shown) (cred : CredValue) (admitted : Option (Result Admitted AdmitRefusal)) (ended : Option (Result Receipt AdmitRefusal)) (looked : Result Lease LookRefusal) → (cred.proc == 0) ≡ false
    → NoAdmission (looked_ruling s cred admitted ended looked)
of-looked s cred admitted ended (Ok lease) e = of-lease s cred admitted ended lease (cred.proc == 0) e
of-looked s cred admitted ended (Err looks.NoContext) e = no-question _ refl
of-looked s cred admitted ended (Err looks.NotReady) e = no-question _ refl
of-looked s cred admitted ended (Err looks.Expired) e = no-question _ refl

of-look : (s : Shown) (cred : CredValue) (id : ℕ) (admitted : Option (Result Admitted AdmitRefusal)) (ended : Option (Result Receipt AdmitRefusal)) (looked : Option (Result Lease LookRefusal)) → (cred.proc == 0) ≡ false
    → NoAdmission (ask_look s cred id admitted ended looked)
of-look s cred id admitted ended None e = record { none = λ lease seq service procedure args due. absurd cc }
of-look s cred id admitted ended (Some answer) e = record { none = (of-looked s cred admitted ended answer e).none }

of-id : (s : Shown) (cred : CredValue) (looked : Option (Result Lease LookRefusal)) (admitted : Option (Result Admitted AdmitRefusal)) (ended : Option (Result Receipt AdmitRefusal)) (id : Option ℕ) → (cred.proc == 0) ≡ false
    → NoAdmission (id_ruling s cred looked admitted ended id)
of-id s cred looked admitted ended None e = no-question _ refl
of-id s cred looked admitted ended (Some id) e = of-look s cred id admitted ended looked e

of-cred : (s : Shown) (cred : CredValue) (found : Option Negotiated) (looked : Option (Result Lease LookRefusal)) (admitted : Option (Result Admitted AdmitRefusal)) (ended : Option (Result Receipt AdmitRefusal)) → (cred.proc == 0) ≡ false
    → NoAdmission (cred_ruling s found looked admitted ended (Ok cred))
of-cred s cred found looked admitted ended e =
    behind (is_misplaced s.call cred) _ _ refl (either (cred.proc == 1 || cred.proc == 2) _ _ (of-creation s cred found) (of-id s cred looked admitted ended (handle_id cred.context) e))

of-call : (s : Shown) (cred : CredValue) (found : Option Negotiated) (looked : Option (Result Lease LookRefusal)) (admitted : Option (Result Admitted AdmitRefusal)) (ended : Option (Result Receipt AdmitRefusal)) → cred_at s.call.cred.body ≡ Ok cred
    → (cred.proc == 0) ≡ false → NoAdmission (call_ruling s found looked admitted ended)
unfolding call_ruling
of-call s cred found looked admitted ended read e =
    behind (not (s.call.cred.flavour == 0) && not (s.call.cred.flavour == 6)) _ _ refl
    (either (s.call.cred.flavour == 0) _ _ (of-plain s) (subst (λ r. NoAdmission (cred_ruling s found looked admitted ended r)) (sym read) (of-cred s cred found looked admitted ended e)))

of-record : (octets : List ℕ) (kept : KeptAnswers) (serves : Serving) (call : CallValue) (cred : CredValue) → call_at octets ≡ Ok call → cred_at call.cred.body ≡ Ok cred → (cred.proc == 0) ≡ false → NoAdmission (record_ruling octets kept serves)
unfolding record_ruling
of-record octets kept serves call cred read cred_read e =
    subst (λ r. NoAdmission (read_ruling octets kept serves r)) (sym read) (of-call (shown octets kept serves call) cred kept.negotiated kept.looked kept.admitted kept.ended cred_read e)

pub admits-data : (octets : List ℕ) (kept : KeptAnswers) (serves : Serving) (call : CallValue) (cred : CredValue) (lease : Lease) (seq : ℕ) (service : Service) (procedure : ℕ) (args : List ℕ) → call_at octets ≡ Ok call → cred_at call.cred.body ≡ Ok cred
    → (record_ruling octets kept serves).due ≡ Some (Admit lease seq service procedure args) → (cred.proc == 0) ≡ true
admits-data octets kept serves call cred lease seq service procedure args read cred_read due = by (cred.proc == 0) refl
  where
    by : (b : Bool) → (cred.proc == 0) ≡ b → (cred.proc == 0) ≡ true
    by true e = e
    by false e = absurd ((of-record octets kept serves call cred read cred_read e).none lease seq service procedure args due)
