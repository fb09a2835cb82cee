-- A call that reads has its record's transaction number.
use Rattle.std.proofs.Common.{◌≡◌, ℕ, Bool, true, false, List, length, take, Result, Ok, Err, nat_lt, refl, sym, ap, ◌∙◌, eqb}
use Rattle.std.specs.Int.{w32, from_be_bytes}
use Rattle.rpc_msgs.specs.Auths.{auth_at}
use Rattle.rpc_msgs.specs.Calls.{CallValue, readable, call_word_at, version_at, xid_at, rest_at, call_at}
use Rattle.rpc_msgs.specs.Xdr.{Input, whole, place, refusal, behind, octets_at, word_at}
use Rattle.rpc_msgs.specs.declared.call.CallRefusal.{CallRefusal}
use Rattle.rpc_msgs.specs.declared.call.CallRefusal.TheVariants.{NotCall, RpcVersion}
use Rattle.rpc_msgs.specs.declared.xdr_reader.XdrRefusal.{XdrRefusal}
use Rattle.rpc_msgs.specs.declared.xdr_reader.XdrWhy.TheVariants.{Short}
use Rattle.rpc_msgs.proofs.XdrLaws.{bind_ok, refused_not, refused_else, ok_is}
use Rattle.rpc_datagram.specs.Served.{xid_of}

readable-ok : {A : Type 0} (r : Result A XdrRefusal) (y : A) → readable r ≡ Ok y → r ≡ Ok y
readable-ok (Ok x) y e = cc
readable-ok (Err d) y e = absurd cc

xid-by : (octets : List ℕ) (short : Bool) → nat_lt (length octets) 4 ≡ short → short ≡ false → from_be_bytes w32 (take 4 octets) ≡ xid_of octets
xid-by octets true e f = absurd cc
xid-by octets false e f = rw e refl

first-word : (i : Input) (p : ℕ × Input) → word_at i ≡ Ok p → p.0 ≡ xid_of i.octets
unfolding word_at octets_at
first-word i p e =
    let b = bind_ok (octets_at 4 i) (λ o. Ok (from_be_bytes w32 o.0, o.1)) p e in
    let r = refused_not (nat_lt (length i.octets) 4) (refusal Short i.end) (Ok (take 4 i.octets, behind 4 i)) b.0 b.1 in
    let first = ok_is {E = XdrRefusal} (take 4 i.octets, behind 4 i) b.0 r.1 in
    let second = ok_is {E = XdrRefusal} (from_be_bytes w32 b.0.0, b.0.1) p b.2 in
    sym (ap (λ p. p.0) second) ∙ (sym (ap (λ p. from_be_bytes w32 p.0) first) ∙ xid-by i.octets (nat_lt (length i.octets) 4) refl r.0)

rest-xid : (xid : ℕ) (i : Input) (call : CallValue) → rest_at xid i ≡ Ok call → xid ≡ call.xid
unfolding rest_at
rest-xid xid i call e =
    let b = bind_ok (word_at i) _ call e in
    let c = bind_ok (word_at b.0.1) _ call b.2 in
    let d = bind_ok (word_at c.0.1) _ call c.2 in
    let f = bind_ok (auth_at d.0.1) _ call d.2 in
    let g = bind_ok (auth_at f.0.1) _ call f.2 in
    let made : CallValue = record { xid = xid; program = b.0.0; version = c.0.0; procedure = d.0.0; cred = f.0.0; verf = g.0.0; header = place f.0.1; args = g.0.1.octets } in
    ap (λ (k : CallValue). k.xid) (ok_is {E = XdrRefusal} made call g.2)

pub call-xid : (octets : List ℕ) (call : CallValue) → call_at octets ≡ Ok call → call.xid ≡ xid_of octets
unfolding call_at xid_at version_at call_word_at
call-xid octets call e =
    let a = bind_ok (xid_at (whole octets)) _ call e in
    let b = bind_ok (call_word_at (whole octets)) _ a.0 a.1 in
    let c = bind_ok (call_word_at b.0.1) _ a.0 b.2 in
    let k = refused_else (eqb c.0.0 0) NotCall (version_at b.0.0 c.0.1) a.0 c.2 in
    let d = bind_ok (call_word_at c.0.1) _ a.0 k.1 in
    let l = refused_else (eqb d.0.0 2) (RpcVersion b.0.0) (Ok (b.0.0, d.0.1)) a.0 d.2 in
    let is = ok_is {E = CallRefusal} (b.0.0, d.0.1) a.0 l.1 in
    sym (rest-xid a.0.0 a.0.1 call (readable-ok (rest_at a.0.0 a.0.1) call a.2)) ∙ (sym (ap (λ p. p.0) is) ∙ first-word (whole octets) b.0 (readable-ok (word_at (whole octets)) b.0 b.1))
