-- A session: a context that stands, and where its calls are.
use Rattle.std.specs.Prelude.{ℕ, ◌+◌, ◌%◌, ◌^◌, List}
use Rattle.spnego_core.specs.declared.outcome.Outcome.{Outcome}
use Rattle.gss_client.specs.declared.terms.Terms.{Terms}

-- what was agreed; what is called, and how calls are protected; the server's handle; the number of
-- the next call, and its transaction number
pub record SessionState : Type 0 where
  pub outcome : Outcome
  pub terms : Terms
  pub handle : List ℕ
  pub number : ℕ
  pub xid : ℕ

-- transaction numbers are 1, 2, 3 and so on, each a word
abbrev pub xid_after : ℕ → ℕ
xid_after xid = (xid + 1) % 2 ^ 32

-- the session after a call was made, whose next call has the next numbers
abbrev pub session_after : SessionState → SessionState
session_after s = record {
  outcome = s.outcome;
  terms = s.terms;
  handle = s.handle;
  number =
      s.number + 1;
  xid = xid_after s.xid;
}
