-- Results of creation calls are read as they are spelled.
use Rattle.std.proofs.Common.{◌≡◌, ℕ, lit<, List, [], ◌++◌, length, Result, Ok, Err, refl, sym, ap, subst, ◌∙◌, append_assoc, append-nil, IfOk}
use Rattle.rpc_msgs.specs.Words.{word, opaque}
use Rattle.rpc_msgs.specs.Xdr.{MayAnswer, whole, word_at, opaque_at, end_at}
use Rattle.rpc_msgs.specs.declared.xdr_reader.XdrRefusal.{XdrRefusal}
use Rattle.rpc_msgs.proofs.XdrLaws.{AreOctets, Law, bind_ok, ok_is, word_law, opaque_law}
use Rattle.rpc_msgs.proofs.CallLaws.{found-same}
use Rattle.rpcsec_msgs.specs.declared.init_res.InitRes.{InitRes}
use Rattle.rpcsec_msgs.specs.InitRes.{init_res_octets, IsInitRes, init_fields_at, init_res_at}
use Rattle.rpcsec_msgs.proofs.BodyLaws.{end-found, end-only}

flat : (a b c d e rest : List ℕ) → (a ++ (b ++ (c ++ (d ++ e)))) ++ rest ≡ a ++ (b ++ (c ++ (d ++ (e ++ rest))))
flat a b c d e rest = simp append_assoc

chain : (octets a one b two c three d four e rest : List ℕ) → octets ≡ a ++ one → one ≡ b ++ two → two ≡ c ++ three → three ≡ d ++ four → four ≡ e ++ rest
    → octets ≡ (a ++ (b ++ (c ++ (d ++ e)))) ++ rest
chain octets a one b two c three d four e rest f g h k l = rw (f, g, h, k, l) (sym (flat a b c d e rest))

pub fields_law : Law init_fields_at init_res_octets IsInitRes
unfolding init_fields_at
fields_law = record {
  found = λ i j v all e.
      let b = bind_ok (opaque_at 64 i) _ (v, j) e in
      let t = (opaque_law 64 (lit< tt)).found i b.0.1 b.0.0 all b.1 in
      let c = bind_ok (word_at b.0.1) _ (v, j) b.2 in
      let u = word_law.found b.0.1 c.0.1 c.0.0 t.left c.1 in
      let d = bind_ok (word_at c.0.1) _ (v, j) c.2 in
      let w = word_law.found c.0.1 d.0.1 d.0.0 u.left d.1 in
      let f = bind_ok (word_at d.0.1) _ (v, j) d.2 in
      let x = word_law.found d.0.1 f.0.1 f.0.0 w.left f.1 in
      let g = bind_ok (opaque_at 65536 f.0.1) _ (v, j) f.2 in
      let y = (opaque_law 65536 (lit< tt)).found f.0.1 g.0.1 g.0.0 x.left g.1 in
      let made : InitRes = record { context = b.0.0; major = c.0.0; minor = d.0.0; window = f.0.0; token = g.0.0 } in
      found-same made g.0.1 v j (ok_is {E = XdrRefusal} (made, g.0.1) (v, j) g.2)
      (record {
        has = record { context = t.has; major = u.has; minor = w.has; window = x.has; token = y.has };
        same = chain i.octets (opaque b.0.0) b.0.1.octets (word c.0.0) c.0.1.octets (word d.0.0) d.0.1.octets (word f.0.0) f.0.1.octets (opaque g.0.0) g.0.1.octets t.same u.same w.same x.same y.same;
        end = y.end ∙ (x.end ∙ (w.end ∙ (u.end ∙ t.end)));
        left = y.left;
      });
  only = λ v back end has.
      rw (
        flat (opaque v.context) (word v.major) (word v.minor) (word v.window) (opaque v.token) back,
        (opaque_law 64 (lit< tt)).only v.context (word v.major ++ (word v.minor ++ (word v.window ++ (opaque v.token ++ back)))) end has.context,
        word_law.only v.major (word v.minor ++ (word v.window ++ (opaque v.token ++ back))) end has.major,
        word_law.only v.minor (word v.window ++ (opaque v.token ++ back)) end has.minor,
        word_law.only v.window (opaque v.token ++ back) end has.window,
        (opaque_law 65536 (lit< tt)).only v.token back end has.token,
      ) refl;
}

pub init_res-found : (octets : List ℕ) (v : InitRes) → AreOctets octets → init_res_at octets ≡ Ok v → IsInitRes v × (octets ≡ init_res_octets v)
unfolding init_res_at
init_res-found octets v all e =
    let b = bind_ok (init_fields_at (whole octets)) _ v e in
    let t = fields_law.found (whole octets) b.0.1 b.0.0 all b.1 in
    let c = bind_ok (end_at b.0.1) _ v b.2 in
    let done = end-found b.0.1 c.0 c.1 in
    let is : b.0.0 ≡ v = ok_is {E = XdrRefusal} b.0.0 v c.2 in (
      subst IsInitRes is t.has,
      t.same ∙ (ap (λ (zs : List ℕ). init_res_octets b.0.0 ++ zs) done ∙ (append-nil (init_res_octets b.0.0) ∙ ap init_res_octets is)),
    )

pub init_res-only : (v : InitRes) → IsInitRes v → init_res_at (init_res_octets v) ≡ Ok v
unfolding init_res_at
init_res-only v h =
    let end : ℕ = length (init_res_octets v) in
    let read : init_fields_at (record { octets = init_res_octets v; end = end }) ≡ Ok (v, record { octets = []; end = end }) =
    ap (λ (zs : List ℕ). init_fields_at (record { octets = zs; end = end })) (sym (append-nil (init_res_octets v))) ∙ fields_law.only v [] end h in
    rw (read, end-only end) refl

pub init_res-spelled : (octets : List ℕ) (result : Result InitRes XdrRefusal) → AreOctets octets → MayAnswer (λ v. v) result (init_res_at octets)
    → IfOk result (λ v. IsInitRes v × (octets ≡ init_res_octets v))
init_res-spelled octets (Ok v) all e = init_res-found octets v all e
init_res-spelled octets (Err e) all r = tt
