use Rattle.pair_laws.proofs.PostsResults.{posts-law}
use Rattle.pair_laws.proofs.laws.prove_posts.Goals as goal

pub returns : goal.returns
returns c = posts-law
