use Rattle.guarantee.proofs.Stories.{every_story}
use Rattle.guarantee.proofs.guaranteed.every_story_stands.Goals as goal

pub returns : goal.returns
returns c = every_story
