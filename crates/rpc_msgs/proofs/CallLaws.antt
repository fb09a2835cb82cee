-- Calls are read as they are spelled.
use Rattle.std.proofs.Common.{◌≡◌, ℕ, ◌+◌, ◌-◌, ◌<◌, ◌≤◌, ◌^◌, lit<, List, ◌++◌, length, Result, Ok, Err, refl, sym, ap, subst, ◌∙◌, arith, append_assoc, length-append, eqb, IfOk}
use Rattle.std.proofs.lemmas.Bool.{eqb-true}
use Rattle.rpc_msgs.specs.Words.{word, opaque}
use Rattle.rpc_msgs.specs.Xdr.{Input, Answers, ◌>>=◌, whole, place, word_at, opaque_at}
use Rattle.rpc_msgs.specs.Auths.{AuthValue, IsAuth, auth_octets, auth_at}
use Rattle.rpc_msgs.specs.Calls.{CallValue, call_value, IsCall, header_octets, call_octets, secure_call, readable, call_word_at, version_at, xid_at, rest_at, call_at}
use Rattle.rpc_msgs.specs.declared.call.Call.{Call}
use Rattle.rpc_msgs.specs.declared.call.CallRefusal.{CallRefusal}
use Rattle.rpc_msgs.specs.declared.call.CallRefusal.TheVariants.{NotCall, RpcVersion}
use Rattle.rpc_msgs.specs.declared.xdr_reader.XdrRefusal.{XdrRefusal}
use Rattle.rpc_msgs.proofs.XdrLaws.{AreOctets, Found, Law, bind_ok, refused_else, ok_is, word_law, opaque_law}

-- the same for what it is equal to
pub found-same : {A : Type 0} {spell : A → List ℕ} {Has : A → Type 0} {i : Input} (x : A) (k : Input) (v : A) (j : Input) → (let p : A × Input = (x, k) in let q : A × Input = (v, j) in p ≡ q) → Found spell Has x i k → Found spell Has v i j
found-same {A} {spell} {Has} {i} x k v j e f = subst (λ (p : A × Input). Found spell Has p.0 i p.1) e f

pub auth_law : Law auth_at auth_octets IsAuth
unfolding auth_at
auth_law = record {
  found = λ i j v all e.
      let b = bind_ok (word_at i) _ (v, j) e in
      let t = word_law.found i b.0.1 b.0.0 all b.1 in
      let c = bind_ok (opaque_at 400 b.0.1) _ (v, j) b.2 in
      let u = (opaque_law 400 (lit< tt)).found b.0.1 c.0.1 c.0.0 t.left c.1 in
      found-same (record { flavour = b.0.0; body = c.0.0 }) c.0.1 v j (ok_is {E = XdrRefusal} (record { flavour = b.0.0; body = c.0.0 }, c.0.1) (v, j) c.2)
      (record {
        has = record { flavour = t.has; body = u.has };
        same = t.same ∙ (ap (λ (zs : List ℕ). word b.0.0 ++ zs) u.same ∙ sym (append_assoc (word b.0.0) (opaque c.0.0) c.0.1.octets));
        end = u.end ∙ t.end;
        left = u.left;
      });
  only = λ v back end has. rw (append_assoc (word v.flavour) (opaque v.body) back, word_law.only v.flavour (opaque v.body ++ back) end has.flavour, (opaque_law 400 (lit< tt)).only v.body back end has.body) refl;
}

readable_ok : {A : Type 0} (r : Result A XdrRefusal) (y : A) → readable r ≡ Ok y → r ≡ Ok y
readable_ok (Ok x) y e = cc
readable_ok (Err d) y e = absurd cc

pub call_word_law : Law call_word_at word (λ v. v < 2 ^ 32)
unfolding call_word_at
call_word_law = record {
  found = λ i j v all e. word_law.found i j v all (readable_ok (word_at i) (v, j) e);
  only = λ v back end has. rw (word_law.only v back end has) refl;
}

abbrev pub xid_octets : ℕ → List ℕ
xid_octets xid = word xid ++ (word 0 ++ word 2)

four : (octets a one b two c three : List ℕ) → octets ≡ a ++ one → one ≡ b ++ two → two ≡ c ++ three → octets ≡ (a ++ (b ++ c)) ++ three
four octets a one b two c three e f g = rw (e, f, g) (simp append_assoc)

pub xid_law : Law xid_at xid_octets (λ xid. xid < 2 ^ 32)
unfolding xid_at version_at
xid_law = record {
  found = λ i j v all e.
      let b = bind_ok (call_word_at i) _ (v, j) e in
      let t = call_word_law.found i b.0.1 b.0.0 all b.1 in
      let c = bind_ok (call_word_at b.0.1) _ (v, j) b.2 in
      let u = call_word_law.found b.0.1 c.0.1 c.0.0 t.left c.1 in
      let k = refused_else (eqb c.0.0 0) NotCall (version_at b.0.0 c.0.1) (v, j) c.2 in
      let d = bind_ok (call_word_at c.0.1) _ (v, j) k.1 in
      let w = call_word_law.found c.0.1 d.0.1 d.0.0 u.left d.1 in
      let l = refused_else (eqb d.0.0 2) (RpcVersion b.0.0) (Ok (b.0.0, d.0.1)) (v, j) d.2 in
      let zero_is : c.0.0 ≡ 0 = eqb-true c.0.0 0 k.0 in
      let two_is : d.0.0 ≡ 2 = eqb-true d.0.0 2 l.0 in
      found-same b.0.0 d.0.1 v j (ok_is {E = CallRefusal} (b.0.0, d.0.1) (v, j) l.1)
      (record {
        has = t.has;
        same = four i.octets (word b.0.0) b.0.1.octets (word 0) c.0.1.octets (word 2) d.0.1.octets t.same (u.same ∙ ap (λ (n : ℕ). word n ++ c.0.1.octets) zero_is) (w.same ∙ ap (λ (n : ℕ). word n ++ d.0.1.octets) two_is);
        end = w.end ∙ (u.end ∙ t.end);
        left = w.left;
      });
  only = λ v back end has.
      let flat : (word v ++ (word 0 ++ word 2)) ++ back ≡ word v ++ (word 0 ++ (word 2 ++ back)) = simp append_assoc in
      rw (flat, call_word_law.only v (word 0 ++ (word 2 ++ back)) end has, call_word_law.only 0 (word 2 ++ back) end (lit< tt), call_word_law.only 2 back end (lit< tt)) refl;
}

-- what stands behind the RPC version
pub record IsRest (before end : ℕ) (c : CallValue) (octets : List ℕ) : Type 0 where
  pub xid : c.xid ≡ before
  pub program : c.program < 2 ^ 32
  pub version : c.version < 2 ^ 32
  pub procedure : c.procedure < 2 ^ 32
  pub cred : IsAuth c.cred
  pub verf : IsAuth c.verf
  pub header : c.header ≡ end - length (auth_octets c.verf ++ c.args)
  pub same : octets ≡ word c.program ++ (word c.version ++ (word c.procedure ++ (auth_octets c.cred ++ (auth_octets c.verf ++ c.args))))

chain : (octets a one b two c three d rest : List ℕ) → octets ≡ a ++ one → one ≡ b ++ two → two ≡ c ++ three → three ≡ d ++ rest → octets ≡ a ++ (b ++ (c ++ (d ++ rest)))
chain octets a one b two c three d rest e f g h = rw (e, f, g, h) refl

rest-found : (xid : ℕ) (i : Input) (v : CallValue) → AreOctets i.octets → rest_at xid i ≡ Ok v → IsRest xid i.end v i.octets
unfolding rest_at
rest-found xid i v all e =
    let b = bind_ok (word_at i) _ v e in
    let t = word_law.found i b.0.1 b.0.0 all b.1 in
    let c = bind_ok (word_at b.0.1) _ v b.2 in
    let u = word_law.found b.0.1 c.0.1 c.0.0 t.left c.1 in
    let d = bind_ok (word_at c.0.1) _ v c.2 in
    let w = word_law.found c.0.1 d.0.1 d.0.0 u.left d.1 in
    let f = bind_ok (auth_at d.0.1) _ v d.2 in
    let x = auth_law.found d.0.1 f.0.1 f.0.0 w.left f.1 in
    let g = bind_ok (auth_at f.0.1) _ v f.2 in
    let y = auth_law.found f.0.1 g.0.1 g.0.0 x.left g.1 in
    let made : CallValue = record { xid = xid; program = b.0.0; version = c.0.0; procedure = d.0.0; cred = f.0.0; verf = g.0.0; header = place f.0.1; args = g.0.1.octets } in
    subst (λ (k : CallValue). IsRest xid i.end k i.octets) (ok_is {E = XdrRefusal} made v g.2)
    (record {
      xid = refl;
      program = t.has;
      version = u.has;
      procedure = w.has;
      cred = x.has;
      verf = y.has;
      header = ap (λ (n : ℕ). n - length f.0.1.octets) (x.end ∙ (w.end ∙ (u.end ∙ t.end))) ∙ ap (λ (zs : List ℕ). i.end - length zs) y.same;
      same = chain i.octets (word b.0.0) b.0.1.octets (word c.0.0) c.0.1.octets (word d.0.0) d.0.1.octets (auth_octets f.0.0) (auth_octets g.0.0 ++ g.0.1.octets) t.same u.same w.same (x.same ∙ ap (λ (zs : List ℕ). auth_octets f.0.0 ++ zs) y.same);
    })

seven : (x k r p v q c rest : List ℕ) → (x ++ (k ++ (r ++ (p ++ (v ++ (q ++ c)))))) ++ rest ≡ (x ++ (k ++ r)) ++ (p ++ (v ++ (q ++ (c ++ rest))))
seven x k r p v q c rest = simp append_assoc

-- what is read is a call, and is spelled so
pub call-found : (octets : List ℕ) (c : CallValue) → AreOctets octets → call_at octets ≡ Ok c → IsCall c × (octets ≡ call_octets c)
unfolding call_at
call-found octets c all e =
    let b = bind_ok (xid_at (whole octets)) _ c e in
    let t = xid_law.found (whole octets) b.0.1 b.0.0 all b.1 in
    let r = rest-found b.0.0 b.0.1 c t.left (readable_ok (rest_at b.0.0 b.0.1) c b.2) in
    let xid : c.xid ≡ b.0.0 = r.xid in
    let back : List ℕ = auth_octets c.verf ++ c.args in
    let same : octets ≡ header_octets c.xid c.program c.version c.procedure c.cred ++ back =
    t.same ∙ (ap (λ (zs : List ℕ). (word b.0.0 ++ (word 0 ++ word 2)) ++ zs) r.same ∙ (ap (λ (n : ℕ). (word n ++ (word 0 ++ word 2)) ++ (word c.program ++ (word c.version ++ (word c.procedure ++ (auth_octets c.cred ++ back))))) (sym xid)
    ∙ sym (seven (word c.xid) (word 0) (word 2) (word c.program) (word c.version) (word c.procedure) (auth_octets c.cred) back))) in
    let size : length octets ≡ length (header_octets c.xid c.program c.version c.procedure c.cred) + length back = ap length same ∙ length-append (header_octets c.xid c.program c.version c.procedure c.cred) back in (
      record {
        xid = subst (λ (n : ℕ). n < 2 ^ 32) (sym xid) t.has;
        program = r.program;
        version = r.version;
        procedure = r.procedure;
        cred = r.cred;
        verf = r.verf;
        header = r.header ∙ (ap (λ (n : ℕ). n - length back) t.end ∙ header-size (length octets) (length (header_octets c.xid c.program c.version c.procedure c.cred)) (length back) size);
      },
      same,
    )
  where
    header-size : (n h k : ℕ) → n ≡ h + k → n - k ≡ h
    header-size n h k e = omega arith

rest-only : (c : CallValue) (end : ℕ) → IsCall c → c.header ≡ end - length (auth_octets c.verf ++ c.args) → rest_at c.xid (record { octets = word c.program ++ (word c.version ++ (word c.procedure ++ (auth_octets c.cred ++ (auth_octets c.verf ++ c.args)))); end = end }) ≡ Ok c
unfolding rest_at
rest-only c end h e =
    let back : List ℕ = auth_octets c.verf ++ c.args in
    rw (
      word_law.only c.program (word c.version ++ (word c.procedure ++ (auth_octets c.cred ++ back))) end h.program,
      word_law.only c.version (word c.procedure ++ (auth_octets c.cred ++ back)) end h.version,
      word_law.only c.procedure (auth_octets c.cred ++ back) end h.procedure,
      auth_law.only c.cred back end h.cred,
      auth_law.only c.verf c.args end h.verf,
    )
    (ap (λ (n : ℕ). Ok (record { xid = c.xid; program = c.program; version = c.version; procedure = c.procedure; cred = c.cred; verf = c.verf; header = n; args = c.args })) (sym e))

-- what is spelled as a call is read
pub call-only : (c : CallValue) → IsCall c → call_at (call_octets c) ≡ Ok c
unfolding call_at
call-only c h =
    let back : List ℕ = auth_octets c.verf ++ c.args in
    let end : ℕ = length (call_octets c) in
    let rest : List ℕ = word c.program ++ (word c.version ++ (word c.procedure ++ (auth_octets c.cred ++ back))) in
    let flat : call_octets c ≡ (word c.xid ++ (word 0 ++ word 2)) ++ rest = seven (word c.xid) (word 0) (word 2) (word c.program) (word c.version) (word c.procedure) (auth_octets c.cred) back in
    let size : end ≡ length (header_octets c.xid c.program c.version c.procedure c.cred) + length back = length-append (header_octets c.xid c.program c.version c.procedure c.cred) back in
    let first : xid_at (record { octets = call_octets c; end = end }) ≡ Ok (c.xid, record { octets = rest; end = end }) =
    ap (λ (zs : List ℕ). xid_at (record { octets = zs; end = end })) flat ∙ xid_law.only c.xid rest end h.xid in
    let header : c.header ≡ end - length back = omega (arith, h.header) in
    ap (λ (r : Result (ℕ × Input) CallRefusal). r >>= (λ xid. readable (rest_at xid.0 xid.1))) first ∙ ap readable (rest-only c end h header)

pub call-spelled : (octets : List ℕ) (result : Result Call CallRefusal) → AreOctets octets → Answers call_value result (call_at octets) → IfOk result (λ call. IsCall (call_value call) × (octets ≡ call_octets (call_value call)))
call-spelled octets (Ok call) all e = call-found octets (call_value call) all e
call-spelled octets (Err refusal) all e = tt

-- a call with flavour 6 is read back
pub secure-again : (xid program version procedure : ℕ) (body : List ℕ) (verf : AuthValue) (args octets : List ℕ) → xid < 2 ^ 32 → program < 2 ^ 32 → version < 2 ^ 32 → procedure < 2 ^ 32 → length body ≤ 400 → IsAuth verf → octets ≡ call_octets (secure_call xid program version procedure body verf args) → call_at octets ≡ Ok (secure_call xid program version procedure body verf args)
secure-again xid program version procedure body verf args octets a b c d e f is =
    ap call_at is ∙ call-only (secure_call xid program version procedure body verf args)
    (record { xid = a; program = b; version = c; procedure = d; cred = record { flavour = lit< tt; body = e }; verf = f; header = refl })
