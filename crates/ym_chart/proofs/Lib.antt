mod FrontLemmas
mod PictureLemmas
mod StandsForLemmas
