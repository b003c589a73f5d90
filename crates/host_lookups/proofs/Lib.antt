mod AnswerLemmas
mod ExtendLemmas
mod ManyLemmas
mod StallLemmas
mod StandingLemmas
mod GoingLemmas
