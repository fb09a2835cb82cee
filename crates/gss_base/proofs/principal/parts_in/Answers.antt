use Rattle.std.proofs.Common.{ℕ, List, ◌∷◌, ◌++◌, [], refl, subst, sym, ap, ◌∙◌, IsUtf8}
use Rattle.std.specs.List.{AllByRecursion}
use Rattle.gss_base.specs.declared.principal.Sign.TheVariants.{Octet, Slash, At}
use Rattle.gss_base.proofs.Naming.{part_in}
use Rattle.gss_base.proofs.Parting.{next-sign, parts-end, part-pushed}
use Rattle.gss_base.proofs.principal.parts_in.Goals as goal
use Rattle.gss_base.proofs.principal.parts_in.Goals.{in-Octet+in_ok-push-in-Octet, in-Slash+in_ok-push-in-Slash}

pub text_of-requires : goal.text_of-requires
text_of-requires c =
    let l = c.loop-sign in
    let e = next-sign l.parts.items l.part.items Slash c.args.signs.now l.sign-index _ c.loop-sign-test.true c.in-Slash.is l.invariant in
    rw c.replace-whole.ensures.value (part_in IsUtf8 _ _ _ (subst (AllByRecursion IsUtf8) (sym e) c.requires))

pub text_of-requires-in-At : goal.text_of-requires-in-At
text_of-requires-in-At c =
    let l = c.loop-sign in
    let e = next-sign l.parts.items l.part.items At c.args.signs.now l.sign-index _ c.loop-sign-test.true c.in-At.is l.invariant in
    part_in IsUtf8 _ _ _ (subst (AllByRecursion IsUtf8) (sym e) c.requires)

pub text_of-requires-2 : goal.text_of-requires-2
text_of-requires-2 c =
    let l = c.loop-sign in
    let e = parts-end l.parts.items l.part.items c.args.signs.now l.sign-index _ c.loop-sign-test.false l.invariant in
    part_in IsUtf8 _ _ _ (subst (AllByRecursion IsUtf8) (sym e) c.requires)

pub loop-sign-preserved : goal.loop-sign-preserved
loop-sign-preserved c =
    let l = c.loop-sign in
    elim c.match-sign.branch [
      | in-Octet+in_ok-push-in-Octet w ↦
          rw (w.parts-is, w.part-is, w.in_ok-push-in-Octet.ensures.items) (next-sign l.parts.items l.part.items (Octet w.in-Octet.octet) c.args.signs.now l.sign-index _ c.loop-sign-test.true w.in-Octet.is l.invariant)
      | in-Slash+in_ok-push-in-Slash w ↦
          let e = next-sign l.parts.items l.part.items Slash c.args.signs.now l.sign-index _ c.loop-sign-test.true w.in-Slash.is l.invariant in
          let text = w.text_of.ensures ∙ ap (λ v. v.items) w.replace-whole.ensures.value in
          rw (w.parts-is, w.part-is, w.replace-whole.ensures.after, w.new.ensures.items) (part-pushed l.parts.items _ l.part.items _ _ _ w.in_ok-push-in-Slash.ensures.items text e)
    ]

pub returns : goal.returns
returns c =
    let l = c.loop-sign in
    let e = parts-end l.parts.items l.part.items c.args.signs.now l.sign-index _ c.loop-sign-test.false l.invariant in
    c.in_ok-push.ensures.items ∙ (ap (λ (text : List ℕ). l.parts.items ++ text ∷ []) c.text_of-2.ensures ∙ e)

pub returns-in-At : goal.returns-in-At
returns-in-At c =
    let l = c.loop-sign in
    let e = next-sign l.parts.items l.part.items At c.args.signs.now l.sign-index _ c.loop-sign-test.true c.in-At.is l.invariant in
    c.in_ok-push-in-At.ensures.items ∙ (ap (λ (text : List ℕ). l.parts.items ++ text ∷ []) c.text_of-in-At.ensures ∙ e)

pub loop-sign-init : goal.loop-sign-init
loop-sign-init c = rw (c.new-parts.ensures.items, c.new-part.ensures.items) refl
