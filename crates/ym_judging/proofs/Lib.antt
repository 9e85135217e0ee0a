mod ContentLemmas
mod StepLemmas
