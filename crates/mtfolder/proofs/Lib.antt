-- What cuts leave, and what writes make of a file.
mod CutLemmas
