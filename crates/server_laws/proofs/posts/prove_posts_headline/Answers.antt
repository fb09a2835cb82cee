use Rattle.posts_program.proofs.Apart.{posts-apart, posts_told}
use Rattle.server_laws.proofs.posts.prove_posts_headline.Goals as goal

pub returns-clause-arguments : goal.returns-clause-arguments
returns-clause-arguments g c = posts-apart

pub returns-clause-results : goal.returns-clause-results
returns-clause-results g c = λ old new caller procedure args ticket outcome takes spelled. posts_told procedure args caller.name ticket outcome takes spelled.0

pub returns-clause-headline : goal.returns-clause-headline
returns-clause-headline g c = c.prove_server_headline.ensures posts-apart (λ old new caller procedure args ticket outcome takes spelled. posts_told procedure args caller.name ticket outcome takes spelled.0)
