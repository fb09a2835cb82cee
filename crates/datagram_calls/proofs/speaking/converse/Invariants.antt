use Rattle.std.proofs.Common.{◌≡◌, ◌≤◌, IsTrue, vec_len, vec_capacity}
use Rattle.datagram_calls.specs.Calls.{AreCalls}
use Rattle.datagram_calls.proofs.speaking.converse.Given as goal

abbrev pub invariant-loop-number : goal.invariant-loop-number
invariant-loop-number g l =
    let post = g.P.Post in
    record {
      told : IsTrue (post.tells l.fn.post) → AreCalls post g.D.Draw l.asks l.fn.session l.results.items l.session l.fn.post l.post l.fn.draw l.draw;
      count : vec_len l.results ≡ l.number;
      room : l.asks.times ≤ vec_capacity l.results;
      tells : post.tells l.post ≡ post.tells l.fn.post;
      faults : post.faults l.fn.post ≤ post.faults l.post;
    }
