use Rattle.std.proofs.Common.{ℕ, List, [], ap, ◌∙◌, ◌++◌, false}
use Rattle.std.proofs.lemmas.List.{append_assoc}
use Rattle.krb_tokens.specs.Wrap.{unwrapped, rotated, wrap_header, wrap_of, signed_body}
use Rattle.krb_derive.specs.Sealing.{checksum_of}
use Rattle.krb_tokens.specs.End.{facing, seal_usage}
use Rattle.krb_tokens.proofs.Unwrapping.{signed-taken}
use Rattle.krb_tokens.proofs.end.TokenEnd.wrap_signed.Goals as goal

pub returns-clause-value : goal.returns-clause-value
unfolding wrap_of signed_body
returns-clause-value c = λ confounder.
    c.from_vec.ensures ∙ c.in_ok-extend_from_slice-3.ensures.items
    ∙ rw (
      c.in_ok-extend_from_slice-2.ensures.items,
      c.in_ok-extend_from_slice.ensures.items,
      c.in_ok-list.ensures.items,
      c.checksum-tag.ensures,
      c.seal_usage.ensures,
      c.wrap_header-bare.ensures,
      c.wrap_header-header.ensures,
    ) (append_assoc (wrap_header c.args.self.now false 12 0 c.args.number) c.args.bytes.now
    (checksum_of c.args.self.now.key (seal_usage c.args.self.now.side) (c.args.bytes.now ++ wrap_header c.args.self.now false 0 0 c.args.number)))

pub returns-clause-unwraps : goal.returns-clause-unwraps
returns-clause-unwraps c = λ rotation small.
    ap (λ (token : List ℕ). unwrapped (facing c.args.self.now) (rotated rotation token)) (returns-clause-value c [])
    ∙ signed-taken c.args.self.now c.args.number rotation [] c.args.bytes.now small
