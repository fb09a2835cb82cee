-- What the devices did in a row.
use Rattle.std.proofs.Common.{ℕ, List, [], ◌++◌, ap, sym, subst, ◌∙◌, append_assoc}
use Rattle.std.proofs.lemmas.List.{append-nil}
use Rattle.sec_base.specs.Link.{Wire}
use Rattle.sec_base.specs.Streams.{Took, Put}
use Rattle.sasl_command.specs.Turns.{Went, Seen, Deals, beside}

pub went-none : (w : Wire) → Went w w [] []
went-none w = record { taken = sym (append-nil w.taken); coming = ([], append-nil w.coming); written = sym (append-nil w.written) }

pub went-took : {a b : Wire} {xs : List ℕ} → Took a b xs → Went a b xs []
went-took {a} {b} {xs} t = record { taken = t.taken; coming = ([], append-nil a.coming ∙ t.coming); written = t.written ∙ sym (append-nil a.written) }

pub went-put : {a b : Wire} {ys : List ℕ} → Put a b ys → Went a b [] ys
went-put {a} {b} {ys} p = record { taken = p.taken ∙ sym (append-nil a.taken); coming = (p.coming.0, sym p.coming.1); written = p.written }

pub went-again : {a b c : Wire} {t u v w : List ℕ} → Went a b t u → Went b c v w → Went a c (t ++ v) (u ++ w)
went-again {a} {b} {c} {t} {u} {v} {w} first then = record {
  taken = then.taken ∙ (ap (λ (zs : List ℕ). zs ++ v) first.taken ∙ append_assoc a.taken t v);
  coming = (
    first.coming.0 ++ then.coming.0,
    sym (append_assoc a.coming first.coming.0 then.coming.0)
        ∙ (ap (λ (zs : List ℕ). zs ++ then.coming.0) first.coming.1
        ∙ (append_assoc t b.coming then.coming.0
        ∙ (ap (λ (zs : List ℕ). t ++ zs) then.coming.1 ∙ sym (append_assoc t v c.coming)))),
  );
  written = then.written ∙ (ap (λ (zs : List ℕ). zs ++ w) first.written ∙ append_assoc a.written u w);
}

pub deals-none : (a : Seen) → Deals a a [] [] [] []
deals-none a = record { went = went-none a.wire; clock = λ on. on; moments_are = λ on. sym (append-nil a.moments); draw = λ on. on; octets_are = λ on. sym (append-nil a.octets) }

pub deals-again : {a b c : Seen} {t u m o v w n p : List ℕ} → Deals a b t u m o → Deals b c v w n p → Deals a c (t ++ v) (u ++ w) (m ++ n) (o ++ p)
deals-again {a} {b} {c} {t} {u} {m} {o} {v} {w} {n} {p} first then = record {
  went = went-again first.went then.went;
  clock = λ on. first.clock (then.clock on);
  moments_are = λ on. then.moments_are on ∙ (ap (λ (zs : List ℕ). zs ++ n) (first.moments_are (then.clock on)) ∙ append_assoc a.moments m n);
  draw = λ on. first.draw (then.draw on);
  octets_are = λ on. then.octets_are on ∙ (ap (λ (zs : List ℕ). zs ++ p) (first.octets_are (then.draw on)) ∙ append_assoc a.octets o p);
}

-- octets were taken, and then others written
pub deals-read : {a b c : Seen} {t w n p : List ℕ} → Deals a b t [] [] [] → Deals b c [] w n p → Deals a c t w n p
deals-read {a} {b} {c} {t} {w} {n} {p} first then = subst (λ (zs : List ℕ). Deals a c zs w n p) (append-nil t) (deals-again first then)

pub deals-took : (a : Seen) (b : Wire) {xs : List ℕ} → Took a.wire b xs → Deals a (beside a b) xs [] [] []
deals-took a b t = record { went = went-took t; clock = λ on. on; moments_are = λ on. sym (append-nil a.moments); draw = λ on. on; octets_are = λ on. sym (append-nil a.octets) }
