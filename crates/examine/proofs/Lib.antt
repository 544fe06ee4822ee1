mod Examining
