use Rattle.listing.proofs.lister.give.Goals as goal

pub returns-in-Feed-clause-answers : goal.returns-in-Feed-clause-answers
returns-in-Feed-clause-answers c = λ given a stands. rw c.in-Feed.is (c.feed.ensures.answers a stands)

pub returns-in-Hold-clause-answers : goal.returns-in-Hold-clause-answers
returns-in-Hold-clause-answers c = λ given a stands. rw c.in-Hold.is (c.hold.ensures.answers a stands)
