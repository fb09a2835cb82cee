-- A context that was fixed is one of the book's: by its log, its table, its own name and its own bindings.
use Rattle.std.proofs.Common.{◌≡◌, ℕ, ◌≤◌, ◌==◌, true, false, refl, sym, ap, ◌∙◌, subst, arith, List, length, slice_get, Option, Some}
use Rattle.std.specs.Cmp.Lexicographic.{same_text}
use Rattle.std.proofs.lemmas.Bool.Decides.{nat_tests}
use Rattle.gss_base.specs.Bindings.{hash_of}
use Rattle.gss_base.specs.declared.mech.MechKind.{MechKind}
use Rattle.gss_base.specs.declared.mech.MechKind.TheVariants as kinds
use Rattle.ap_exchange.specs.declared.judged.Judged.{Judged}
use Rattle.ap_exchange.specs.Judging.{is_bound}
use Rattle.scram_mech.specs.Acceptor.{AcceptModel, AcceptFinished}
use Rattle.scram_bindings.specs.Carried.{carried, is_bound as is_carried}
use Rattle.scram_mech.specs.Laws.{Accepts}
use Rattle.spnego_core.specs.declared.outcome.Outcome.{Outcome}
use Rattle.spnego_core.specs.AcceptMech.{Basis, ByRequest, ByProof}
use Rattle.spnego_core.specs.Outcome.{outcome_of}
use Rattle.world_laws.specs.State.{Context, World}
use Rattle.world_laws.specs.Premises.{Marking}
use Rattle.world_laws.specs.Agreement.{acceptor_by, IsBooks}
use Rattle.world_laws.proofs.Invariants.{KrbFixed, ScramFixed, Below, Kept}
use Rattle.world_laws.proofs.KerberosAgrees.{scram-is}
use Rattle.world_laws.proofs.ScramAgrees.{krb-is}

-- ---- the acceptor's name

named-by : (w : World) (outcome : Outcome) (kind : MechKind) → outcome.mech ≡ kind → outcome.acceptor ≡ acceptor_by kind w → outcome.acceptor ≡ acceptor_by outcome.mech w
named-by w outcome kind mech is = subst (λ (k : MechKind). outcome.acceptor ≡ acceptor_by k w) (sym mech) is

-- ---- the hash of the acceptor's bindings

krb-bound : (bindings : Option (List ℕ)) (hash application : List ℕ) → bindings ≡ Some application → is_bound bindings hash ≡ true → hash ≡ hash_of (Some application)
krb-bound bindings hash application is bound = same_text hash (hash_of (Some application)) (sym (subst (λ (b : Option (List ℕ)). is_bound b hash ≡ true) is bound))

scram-bound : (bindings : Option (List ℕ)) (binding application : List ℕ) → bindings ≡ Some application → is_carried bindings binding ≡ true → application ≡ binding
scram-bound bindings binding application is bound = same_text application binding (sym (subst (λ (b : Option (List ℕ)). is_carried b binding ≡ true) is bound))

not-empty : (application : List ℕ) → 1 ≤ length application → (length application == 0) ≡ false
not-empty application some = grind (arith, nat_tests)

carried-some : (application : List ℕ) → 1 ≤ length application → carried application ≡ Some application
carried-some application some = rw (not-empty application some) refl

-- ---- by what the context is built on

-- the two of a context's outcome
record Own (w : World) (outcome : Outcome) : Type 0 where
  named : outcome.acceptor ≡ acceptor_by outcome.mech w
  bound : (application : List ℕ) → w.book.setup.bindings ≡ Some application → 1 ≤ length application → outcome.hash ≡ hash_of (Some application)

krb-own : (marking : Marking) (w : World) (x : Context) (request : Judged) → KrbFixed marking w x request → Own w x.fixed.outcome
krb-own marking w x request f = record {
  named = named-by w x.fixed.outcome kinds.Kerberos (krb-is marking w x request f) (ap (λ (o : Outcome). o.acceptor) f.outcome_is ∙ ap (λ (j : Judged). j.acceptor) f.by.kept);
  bound = λ application is some. ap (λ (o : Outcome). o.hash) f.outcome_is ∙ krb-bound w.book.setup.bindings request.hash application is f.by.bound;
}

scram-own : (laws : Below) (marking : Marking) (w : World) (x : Context) (end : AcceptModel) (text : List ℕ) → ScramFixed marking w x end text → Own w x.fixed.outcome
scram-own laws marking w x end text f = by (laws.scram.accepts end text w.book.setup.bindings f.now f.finished f.finishes)
  where
    by : Accepts end text w.book.setup.bindings f.now f.finished → Own w x.fixed.outcome
    by a =
        let is = f.outcome_is ∙ ap (λ (z : AcceptFinished). outcome_of kinds.Scram z.done) a.same in
        record {
          named = named-by w x.fixed.outcome kinds.Scram (scram-is marking w x end text f) (ap (λ (o : Outcome). o.acceptor) is);
          bound = λ application set some. ap (λ (o : Outcome). o.hash) is
              ∙ (ap (λ (os : List ℕ). hash_of (carried os)) (sym (scram-bound w.book.setup.bindings a.third.binding application set a.bound)) ∙ ap hash_of (carried-some application some));
        }

own-by : (laws : Below) (marking : Marking) (w : World) → Kept marking w → (place : ℕ) (x : Context) → slice_get w.fixed place ≡ Some x → (b : Basis) → x.fixed.basis ≡ b → Own w x.fixed.outcome
own-by laws marking w kept place x there (ByRequest request) basis = krb-own marking w x request (kept.found.requests place x request there basis)
own-by laws marking w kept place x there (ByProof end text) basis = scram-own laws marking w x end text (kept.found.proofs place x end text there basis)

pub books : (laws : Below) (marking : Marking) (w : World) → Kept marking w → (place : ℕ) (x : Context) → slice_get w.fixed place ≡ Some x → IsBooks w place x
books laws marking w kept place x there =
    let own = own-by laws marking w kept place x there x.fixed.basis refl in
    record {
      opened = kept.held.opened_at place x there;
      alone = λ other y on_it same. kept.held.ids other place y x on_it there same;
      auth = λ request basis. kept.held.auths place x request there basis;
      live = λ slot is. kept.held.live place x slot there is;
      named = own.named;
      bound = own.bound;
    }
