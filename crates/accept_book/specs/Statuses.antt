-- The major and minor status of a refused step. The major is a routine error (RFC 2744 section
-- 3.9.1) shifted left by 16; the minor is this project's own number.
use Rattle.std.specs.Prelude.{ℕ, ◌*◌, ◌^◌}
use Rattle.gss_base.specs.declared.status.TheConstants.{BAD_MECH, BAD_BINDINGS, BAD_MIC, NO_CRED}
use Rattle.gss_base.specs.declared.status.TheConstants.{DEFECTIVE_TOKEN, CREDENTIALS_EXPIRED}
use Rattle.gss_base.specs.declared.status.TheConstants.{FAILURE, UNAUTHORIZED}
use Rattle.ap_exchange.specs.declared.refusal.ApRefusal.{ApRefusal}
use Rattle.ap_exchange.specs.declared.refusal.ApRefusal.TheVariants as aps
use Rattle.scram_mech.specs.declared.refusal.ScramRefusal.{ScramRefusal}
use Rattle.scram_mech.specs.declared.refusal.ScramRefusal.TheVariants as scrams
use Rattle.spnego_core.specs.declared.refusal.MechRefusal.TheVariants.{Ap, Scram}
use Rattle.spnego_core.specs.declared.refusal.NegRefusal.{NegRefusal}
use Rattle.spnego_core.specs.declared.refusal.NegRefusal.TheVariants as negs
use Rattle.spnego_core.specs.Numbers.{neg_number}
use Rattle.accept_book.specs.declared.book_answer.BookRefusal.{BookRefusal}
use Rattle.accept_book.specs.declared.book_answer.BookRefusal.TheVariants as books

-- ---- the routine error of a refusal: FAILURE unless one of RFC 2744 says more

-- of Kerberos's exchange
abbrev pub ap_error : ApRefusal → ℕ
ap_error (aps.Der part at why) = DEFECTIVE_TOKEN
ap_error aps.Kind = DEFECTIVE_TOKEN
ap_error aps.NoKey = NO_CRED
ap_error aps.Bindings = BAD_BINDINGS
ap_error aps.Expired = CREDENTIALS_EXPIRED
ap_error refusal = FAILURE

-- of SCRAM's exchange
abbrev pub scram_error : ScramRefusal → ℕ
scram_error (scrams.Text at) = DEFECTIVE_TOKEN
scram_error scrams.NoUser = UNAUTHORIZED
scram_error scrams.Bindings = BAD_BINDINGS
scram_error scrams.Proof = UNAUTHORIZED
scram_error refusal = FAILURE

-- of a negotiation; a MIC that is missing or wrong is BAD_MIC
abbrev pub neg_error : NegRefusal → ℕ
neg_error (negs.Defective at) = DEFECTIVE_TOKEN
neg_error negs.NoCommonMech = BAD_MECH
neg_error negs.MicMissing = BAD_MIC
neg_error negs.MicBad = BAD_MIC
neg_error (negs.Mech (Ap refusal)) = ap_error refusal
neg_error (negs.Mech (Scram refusal)) = scram_error refusal
neg_error refusal = FAILURE

-- of a book
abbrev pub book_error : BookRefusal → ℕ
book_error (books.Neg refusal) = neg_error refusal
book_error refusal = FAILURE

-- ---- the minor number

-- of a negotiation its own; else from 20 on, or 0 for a context that isn't there
abbrev pub book_number : BookRefusal → ℕ
book_number books.NoContext = 0
book_number books.AlreadyComplete = 25
book_number books.LogFull = 24
book_number books.TableFull = 23
book_number (books.Neg refusal) = neg_number refusal
book_number (books.Stale greatest) = 21
book_number (books.Repeat at) = 20
book_number books.CacheFull = 22
book_number books.Journal = 27

-- the major status of a routine error
abbrev pub major_status : ℕ → ℕ
major_status error = error * 2 ^ 16
