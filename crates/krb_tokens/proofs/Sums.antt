-- Checksums of MIC tokens that are computed side by side.
use Rattle.std.proofs.Common.{◌≡◌, ℕ, List, ◌++◌, ap, arith, length}
use Rattle.std.proofs.Math.Logic.{∥∥₁_elim}
use Rattle.std.proofs.Props.{props}
use Rattle.krb_derive.specs.declared.key.Key.{Key}
use Rattle.krb_derive.specs.declared.side_by_side.CheckTask.{CheckTask}
use Rattle.krb_derive.specs.Sealing.{checksum_of}
use Rattle.krb_derive.specs.SideBySide.{IsChecksumOf, IsBeside}
use Rattle.krb_derive.specs.SideBySide as checks
use Rattle.krb_tokens.specs.declared.known.MicTask.{MicTask}
use Rattle.krb_tokens.specs.End.{sign_usage}
use Rattle.krb_tokens.specs.Known.{ChecksFor, IsAbout, IsShort, IsTagOf}

pub tag_by : (key : Key) (task : MicTask) (check : CheckTask) (tag : List ℕ) → ChecksFor key task check → IsChecksumOf check tag
    → IsTagOf key task tag
tag_by key task check tag same made =
    let tagged : tag ≡ checksum_of key (sign_usage task.side) (check.front.now ++ check.back.now) =
    ∥∥₁_elim same.kept (search props) (λ kept. made key (sign_usage task.side) kept) in
    rw (same.front, same.back) at tagged

pub short_by : (key : Key) (task : MicTask) (check : CheckTask) → ChecksFor key task check → IsShort task → checks.IsShort check
short_by key task check same short = omega (arith, ap length same.front, same.long, short)

pub beside_by : (key : Key) (task : MicTask) (check : CheckTask) (size : ℕ) → ChecksFor key task check → IsAbout size task → IsBeside size check
beside_by key task check size same about =
    let front : length check.front.now ≡ length task.message.now = ap length same.front in
    record {
      least = omega (arith, front, about.least);
      most = omega (arith, front, same.long, about.most);
    }
