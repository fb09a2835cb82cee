use Rattle.std.proofs.Common.{◌≡◌, ℕ, ◌+◌, List, ◌∷◌, ◌++◌, drop, get_or, true, sym, ap, ◌∙◌}
use Rattle.std.proofs.lemmas.List.{at_drop_more, at_drop_all}
use Rattle.gss_base.specs.Signs.{realm_of}
use Rattle.gss_base.specs.declared.principal.Sign.TheVariants.{Octet, Slash, At}
use Rattle.gss_base.proofs.Parting.{realm_from, realm-octet, realm-kept, before-octet, at-slash, at-sign, realm-end}
use Rattle.gss_base.proofs.principal.realm_in.Goals as goal
use Rattle.gss_base.proofs.principal.realm_in.Goals.{in-Octet+then-behind+in_ok-push-in-Octet, in-Octet+else-behind, in-Slash, in-At}

pub loop-sign-preserved : goal.loop-sign-preserved
loop-sign-preserved c =
    let l = c.loop-sign in
    let seen = get_or c.args.signs.now l.sign-index (Octet 0) in
    let rest = drop (l.sign-index + 1) c.args.signs.now in
    let here = at_drop_more (realm_from l.behind) c.args.signs.now l.sign-index (Octet 0) c.loop-sign-test.true in
    let given : l.realm.items ++ realm_from l.behind (seen ∷ rest) ≡ realm_of c.args.signs.now = ap (λ (xs : List ℕ). l.realm.items ++ xs) (sym here) ∙ l.invariant in
    elim c.match-sign.branch [
      | in-Octet+then-behind+in_ok-push-in-Octet w ↦
          rw (w.realm-is, w.behind-is) (realm-octet l.realm.items _ l.behind w.in-Octet.octet seen rest _ w.in-Octet.is w.if-behind.true w.in_ok-push-in-Octet.ensures.items given)
      | in-Octet+else-behind w ↦
          rw (w.realm-is, w.behind-is) (realm-kept l.realm.items l.behind l.behind seen (Octet w.in-Octet.octet) rest _ w.in-Octet.is (before-octet l.behind w.in-Octet.octet rest w.if-behind.false) given)
      | in-Slash w ↦ rw (w.realm-is, w.behind-is) (realm-kept l.realm.items l.behind l.behind seen Slash rest _ w.in-Slash.is (at-slash l.behind rest) given)
      | in-At w ↦ rw (w.realm-is, w.behind-is) (realm-kept l.realm.items l.behind true seen At rest _ w.in-At.is (at-sign l.behind rest) given)
    ]

pub returns : goal.returns
returns c =
    let l = c.loop-sign in
    c.text_of.ensures ∙ realm-end l.realm.items l.behind _ _ (at_drop_all (realm_from l.behind) c.args.signs.now l.sign-index c.loop-sign-test.false) l.invariant

pub text_of-requires : goal.text_of-requires
text_of-requires c =
    let l = c.loop-sign in
    rw (realm-end l.realm.items l.behind _ _ (at_drop_all (realm_from l.behind) c.args.signs.now l.sign-index c.loop-sign-test.false) l.invariant) c.requires

pub loop-sign-init : goal.loop-sign-init
loop-sign-init c = ap (λ (xs : List ℕ). xs ++ realm_of c.args.signs.now) c.new-realm.ensures.items
