-- What is fresh at the end of a run was so before: a run only adds to what was fixed, handed out and completed.
use Rattle.std.proofs.Common.{ℕ, ap, ◌∙◌, List, slice_get}
use Rattle.krb_derive.specs.declared.key.Key.{Key}
use Rattle.krb_files.specs.Granted.{Granted}
use Rattle.krb_files.specs.Keytab.{found}
use Rattle.scram_mech.specs.declared.verifiers.Verifier.{Verifier}
use Rattle.spnego_core.specs.declared.setup.AcceptSetup.{AcceptSetup}
use Rattle.spnego_core.specs.Ends.{PlainSetup}
use Rattle.world_laws.specs.Premises.{Marking, Listed, HasTicket, HasAccount, Proved, AtInitiator, Fresh}
use Rattle.world_laws.specs.State.{World}
use Rattle.world_laws.proofs.Growing.{Grows, fixed-grow, listed-grows, makings-grow, built-grows, completed-stays}

pub ticket-on : (old new : World) (i : ℕ) (own : PlainSetup) (c : Granted) → Grows old new → HasTicket old i own c → HasTicket new i own c
ticket-on old new i own c g has = record { there = ap (λ facts. slice_get facts i) g.facts ∙ has.there; is_own = has.is_own }

pub account-on : (old new : World) (i : ℕ) (own : PlainSetup) (user password : List ℕ) → Grows old new → HasAccount old i own user password → HasAccount new i own user password
account-on old new i own user password g has = record { there = ap (λ facts. slice_get facts i) g.facts ∙ has.there; is_own = has.is_own }

pub proved-on : (old new : World) (own : PlainSetup) (auth : List ℕ) → Grows old new → Proved old own auth → Proved new own auth
proved-on old new own auth g p = record {
  user = p.user;
  password = p.password;
  is_own = p.is_own;
  parts = p.parts;
  reads = p.reads;
  name = p.name;
  nonce = p.nonce;
  binding = p.binding;
  handed_out = makings-grow old new _ g p.handed_out;
}

initiator-on : (old new : World) (key : Key) (auth : List ℕ) → Grows old new → AtInitiator old key auth → AtInitiator new key auth
initiator-on old new key auth g at = record {
  i = at.i;
  own = at.own;
  outcome = at.outcome;
  completed = completed-stays old new at.i at.own at.outcome g at.completed;
  by_proof = at.by_proof;
  proved = proved-on old new at.own auth g at.proved;
  key_is = at.key_is;
}

line-on : (old new : World) (line : Verifier) → Grows old new → Listed old.book.setup.verifiers line → Listed new.book.setup.verifiers line
line-on old new line g listed = record { place = listed.place; there = ap (λ (s : AcceptSetup). slice_get s.verifiers listed.place) g.setup ∙ listed.there }

pub fresh-back : (marking : Marking) (old new : World) → Grows old new → Fresh marking new → Fresh marking old
fresh-back marking old new g f = record {
  credential = λ i own c t has. f.credential i own c t (ticket-on old new i own c g has);
  server = λ t number etype listed is. f.server t number etype listed (ap (λ (s : AcceptSetup). found s.keytab s.own number etype) g.setup ∙ is) ∙ ap (λ (s : AcceptSetup). s.own) g.setup;
  stamps = λ i j own other c d a b. f.stamps i j own other c d (ticket-on old new i own c g a) (ticket-on old new j other d g b);
  subkeys = λ i j x y a b there next. f.subkeys i j x y a b (fixed-grow old new i x g there) (fixed-grow old new j y g next);
  nonces = λ i j own other a p b q x y. f.nonces i j own other a p b q (account-on old new i own a p g x) (account-on old new j other b q g y);
  own_nonces = λ i j x y end next auth last there other. f.own_nonces i j x y end next auth last (fixed-grow old new i x g there) (fixed-grow old new j y g other);
  lines = λ account line marked listed. f.lines account line marked (line-on old new line g listed);
  proof_keys = λ x end auth last listed guarded on at. f.proof_keys x end auth last (listed-grows old new x g listed) guarded on (initiator-on old new x.fixed.outcome.key last g at);
  proof_subkeys = λ x y request end auth listed next. f.proof_subkeys x y request end auth (listed-grows old new x g listed) (listed-grows old new y g next);
  own_proofs = λ x request last listed guarded on at. f.own_proofs x request last (listed-grows old new x g listed) guarded on (initiator-on old new x.fixed.outcome.key last g at);
  untold = λ i own c outcome has done mech built. f.untold i own c outcome (ticket-on old new i own c g has) (completed-stays old new i own outcome g done) mech (built-grows marking old new outcome.key g built);
}
