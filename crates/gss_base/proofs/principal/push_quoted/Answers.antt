use Rattle.std.proofs.Common.{◌≡◌, ℕ, ◌+◌, ◌≤◌, List, ◌∷◌, ◌++◌, length, drop, get_or, sym, ◌∙◌}
use Rattle.std.proofs.lemmas.List.{append-nil, at_drop_more, at_drop_all}
use Rattle.gss_base.specs.Principal.{quoted}
use Rattle.gss_base.proofs.Parting.{marked_octet, plain_octet, no_ok}
use Rattle.gss_base.proofs.Spelled.{pushed_utf8}
use Rattle.gss_base.proofs.principal.push_quoted.Goals as goal
use Rattle.gss_base.proofs.principal.push_quoted.Goals.{then-is_mark_octet+in_ok-push, else-is_mark_octet}

pub loop-octet-preserved : goal.loop-octet-preserved
loop-octet-preserved c =
    let l = c.loop-octet in
    let octet = get_or c.args.text.now l.octet-index 0 in
    let rest = drop (l.octet-index + 1) c.args.text.now in
    let same = c.as_bytes-octet-items.ensures.value in
    let here = at_drop_more (λ (xs : List ℕ). l.out.items ++ quoted xs) c.args.text.now l.octet-index 0 (rw same at c.loop-octet-test.true) in
    let given : l.out.items ++ quoted (octet ∷ rest) ≡ c.args.out.now.items ++ quoted c.args.text.now = sym here ∙ l.invariant in
    let last = rw same at c.in_ok-push-2.ensures.items in
    let judged = rw same at c.is_mark_octet.ensures in
    elim c.if-is_mark_octet.branch [
      | then-is_mark_octet+in_ok-push w ↦
          marked_octet l.out.items w.push.new.self.items _ octet rest _ (sym judged ∙ w.if-is_mark_octet.true) w.in_ok-push.ensures.items (rw w.out-is at last) given
      | else-is_mark_octet w ↦
          plain_octet l.out.items _ octet rest _ (sym judged ∙ w.if-is_mark_octet.false) (rw w.out-is at last) given
    ]

pub returns : goal.returns
returns c =
    let l = c.loop-octet in
    let past : length c.args.text.now ≤ l.octet-index = rw c.as_bytes-octet-items.ensures.value at c.loop-octet-test.false in
    let none = at_drop_all (λ (xs : List ℕ). l.out.items ++ quoted xs) c.args.text.now l.octet-index past in
    let written : l.out.items ≡ c.args.out.now.items ++ quoted c.args.text.now = sym (append-nil l.out.items) ∙ (sym none ∙ l.invariant) in
    record { quoted = written; utf8 = λ u. pushed_utf8 c.args.out.now.items l.out.items c.args.text.now written u c.utf8.text }

pub returns-in_err-push : goal.returns-in_err-push
returns-in_err-push c = record { quoted = no_ok _ _ c.from_residual.ensures.0; utf8 = λ _. no_ok _ _ c.from_residual.ensures.0 }

pub returns-in_err-push-2 : goal.returns-in_err-push-2
returns-in_err-push-2 c = record { quoted = no_ok _ _ c.from_residual-in_err-push-2.ensures.0; utf8 = λ _. no_ok _ _ c.from_residual-in_err-push-2.ensures.0 }
